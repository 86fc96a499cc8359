-- The map of a font as a call is lent it: `font_lent`.
-- Assumes nothing.
use Rattle.fonts.specs.Font.{Font, font_of}
use Rattle.fonts.specs.declared.Font.{Font as FontLent}

abbrev pub font_lent : FontLent → Font
font_lent font = font_of font.codes.now font.glyphs.now
