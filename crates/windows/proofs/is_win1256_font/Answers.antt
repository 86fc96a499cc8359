-- `windows::is_win1256_font` meets its contract.
-- Assumes nothing.
use mathlib.Core.Path.{ap₂}
use mathlib.Core.Bool.{◌&&◌}
use Rattle.windows.specs.Windows.{signed}
use Rattle.windows.proofs.is_win1256_font.Goals as goal

pub returns : goal.returns
unfolding signed
returns c =
    ap₂ ◌&&◌ c.has_glyph.ensures (ap₂ ◌&&◌ c.has_glyph-2.ensures (ap₂ ◌&&◌ c.has_glyph-3.ensures (ap₂ ◌&&◌ c.has_glyph-4.ensures c.has_glyph-5.ensures)))
