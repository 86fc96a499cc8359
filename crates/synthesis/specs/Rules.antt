-- From rows of codes to the rules of a lookup, in a font (document 01, "The plan follows 001's order"): `rows` rows as two lent columns hold them; `asks`, `with_glyphs`, `usable`, `alters` when a row gives a rule, and which; `ruled` the rules of rows; `in_order` those of a smaller first glyph first.
-- A row is a `Rule` whose numbers are codes: of a shaping row the code is its only component, and its form stands for it. `kind_of` the kind of a lookup by how many glyphs a rule replaces.
-- Assumes nothing.
use Rattle.std.specs.Prelude.{Bool, true, cond, not, List, [], ◌∷◌, map, ℕ, zero, suc, eqb, get_or, take, drop}
use Rattle.laws.specs.Lists.{those}
use Rattle.layouts.specs.declared.Kind.{Kind}
use Rattle.layouts.specs.declared.Kind.TheVariants.{Single, Ligature}
use Rattle.layouts.specs.Tables.{Rule, first}
use Rattle.layouts.specs.Lookups.{fits}
use Rattle.fonts.specs.Font.{Font, glyph_of}
use Rattle.ordering.specs.Order.{sorted}

-- so many rows: of each, n components, and one of every `each` numbers of the other column, that at place k
unfoldable pub rows : ℕ → ℕ → ℕ → ℕ → List ℕ → List ℕ → List Rule
rows zero n each k components ligatures = []
rows (suc count) n each k components ligatures =
    record { components = take n components; ligature = get_or ligatures k 0 } ∷ rows count n each k (drop n components) (drop each ligatures)

-- a single lookup is one whose rules replace one glyph
abbrev pub kind_of : ℕ → Kind
kind_of n = cond (eqb n 1) Single (Ligature n)

-- "only 0 means none": a shaping row of form 0 gives no rule
abbrev pub asks : Kind → Rule → Bool
asks Single row = not (eqb row.ligature 0)
asks (Ligature n) row = true

-- the row with the font's glyphs in the place of its codes
abbrev pub with_glyphs : Font → Rule → Rule
with_glyphs f row = record { components = map (glyph_of f) row.components; ligature = glyph_of f row.ligature }

-- "Glyphs above 65,535 count as absent in rules": all glyphs are there and of 16 bits
abbrev pub usable : Rule → Bool
usable r = fits (r.ligature ∷ r.components)

-- "equal glyph and form are dropped"
abbrev pub alters : Kind → Rule → Bool
alters Single r = not (eqb (first r) r.ligature)
alters (Ligature n) r = true

-- the rules that rows give
unfoldable pub ruled : Font → Kind → List Rule → List Rule
ruled f kind l = those (alters kind) (those usable (map (with_glyphs f) (those (asks kind) l)))

-- "order is stable by first glyph"
abbrev pub in_order : List Rule → List Rule
in_order rules = sorted first rules
