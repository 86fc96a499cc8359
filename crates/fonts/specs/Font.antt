-- A font's map from code points to glyphs, two columns: `Font`, `font_of` the map; `Sound` what is asked of one; `Span` the window that a search of it begins with; `absent`, `glyph_among`, `glyph_of` the glyph of a code, or none; `number_found` what a search answers, `Usable` what one for a rule does.
-- Assumes nothing.
use Rattle.std.specs.Prelude.{◌≡◌, true, cond, List, [], ◌∷◌, ℕ, ◌*◌, ◌^◌, ◌≤◌, ◌<◌, Option, Some, None, eqb, length}
use Rattle.refusals.specs.Columns.{rising}
use Rattle.letters.specs.declared.Glyph.{Glyph}

-- codes, and the glyph of each at its place
pub record Font : Type 0 where
  pub codes : List ℕ
  pub glyphs : List ℕ

abbrev pub font_of : List ℕ → List ℕ → Font
font_of codes glyphs = record { codes = codes; glyphs = glyphs }

-- a glyph for each code, and "codes rise strictly"
pub record Sound (f : Font) : Type 0 where
  pub even : length f.codes ≡ length f.glyphs
  pub rises : rising 1 f.codes ≡ true

-- the greatest power of two that is not above n; 1 for 0
pub record Span (n span : ℕ) : Type 0 where
  pub exponent : ℕ
  pub power : span ≡ 2 ^ exponent
  pub inside : 0 < n → span ≤ n
  pub reaches : n < 2 * span

-- stands for the glyph of a code that the font has not: above every number of 32 bits
abbrev pub absent : ℕ
absent = 4294967296

-- the glyph at the place of the code c
unfoldable pub glyph_among : List ℕ → List ℕ → ℕ → ℕ
glyph_among [] glyphs c = absent
glyph_among (x ∷ codes) [] c = absent
glyph_among (x ∷ codes) (g ∷ glyphs) c = cond (eqb x c) g (glyph_among codes glyphs c)

abbrev pub glyph_of : Font → ℕ → ℕ
glyph_of f c = glyph_among f.codes f.glyphs c

-- what a search answers, as a number
abbrev pub number_found : Option Glyph → ℕ
number_found (Some g) = g.0
number_found None = absent

-- what a search for a rule answers of a code whose glyph is n: "Glyphs above 65,535 count as absent in rules"
abbrev pub Usable : Option Glyph → ℕ → Type 0
Usable (Some g) n = (g.0 ≡ n) × (n < 65536)
Usable None n = 65536 ≤ n
