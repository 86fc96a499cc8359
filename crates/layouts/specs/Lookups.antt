-- A lookup and its words: `Lookup`, `lookup_of` its flags, its kind and its list, as two columns; `lookup_lent` the same from columns that a call is lent; `width` how many glyphs a rule replaces; `known` which numbers of components there are; `rules` the rules of a ligature lookup; `flat`, `ligatures`, `listed` the columns of rules, and their lookup; `laid_out`, `words_of` the lookup's words; `firsts_in`, `firsts` the first glyphs of its list; `fits` that numbers are of 16 bits.
-- Assumes nothing.
use Rattle.std.specs.Prelude.{Bool, true, ◌&&◌, ◌||◌, List, [], ◌∷◌, ◌++◌, map, ℕ, eqb, ltb, take, drop}
use Rattle.laws.specs.Lent.{Borrowed}
use Rattle.layouts.specs.declared.Kind.{Kind}
use Rattle.layouts.specs.declared.Kind.TheVariants.{Single, Ligature}
use Rattle.layouts.specs.Tables.{Rule, first, single, ligature}

-- the glyphs that are replaced, and what stands for them: of a ligature lookup its components, those of one rule behind those of the other, and its ligatures
pub record Lookup : Type 0 where
  pub flags : ℕ
  pub kind : Kind
  pub glyphs : List ℕ
  pub substitutes : List ℕ

abbrev pub lookup_of : ℕ → Kind → List ℕ → List ℕ → Lookup
lookup_of flags kind glyphs substitutes = record { flags = flags; kind = kind; glyphs = glyphs; substitutes = substitutes }

-- a list is lent to be read, so its lookup is one at both moments
abbrev pub lookup_lent : ℕ → Kind → Borrowed ℕ → Borrowed ℕ → Lookup
lookup_lent flags kind glyphs substitutes = lookup_of flags kind glyphs.entry.now substitutes.entry.now

-- how many glyphs a rule replaces
abbrev pub width : Kind → ℕ
width Single = 1
width (Ligature n) = n

-- "component number other than 2 or 3"
abbrev pub known : Kind → Bool
known Single = true
known (Ligature n) = eqb n 2 || eqb n 3

-- the rules of n components each that two columns hold
unfoldable pub rules : ℕ → List ℕ → List ℕ → List Rule
rules n components [] = []
rules n components (l ∷ ligatures) = record { components = take n components; ligature = l } ∷ rules n (drop n components) ligatures

-- the two columns that hold rules: their components, one rule behind the other, and what stands for them
unfoldable pub flat : List Rule → List ℕ
flat [] = []
flat (r ∷ rs) = r.components ++ flat rs

abbrev pub ligatures : List Rule → List ℕ
ligatures rs = map (λ r. r.ligature) rs

-- the lookup of rules; those of a single lookup have one component
abbrev pub listed : ℕ → Kind → List Rule → Lookup
listed flags kind rs = lookup_of flags kind (flat rs) (ligatures rs)

-- the words of a lookup of each kind
abbrev pub laid_out : Kind → ℕ → List ℕ → List ℕ → List ℕ
laid_out Single flags glyphs substitutes = single flags glyphs substitutes
laid_out (Ligature n) flags components ligatures = ligature flags n (rules n components ligatures)

abbrev pub words_of : Lookup → List ℕ
words_of l = laid_out l.kind l.flags l.glyphs l.substitutes

-- the first glyph of each rule
abbrev pub firsts_in : Kind → List ℕ → List ℕ → List ℕ
firsts_in Single glyphs substitutes = glyphs
firsts_in (Ligature n) components ligatures = map first (rules n components ligatures)

abbrev pub firsts : Lookup → List ℕ
firsts l = firsts_in l.kind l.glyphs l.substitutes

-- every number is of 16 bits
unfoldable pub fits : List ℕ → Bool
fits [] = true
fits (w ∷ ws) = ltb w 65536 && fits ws
