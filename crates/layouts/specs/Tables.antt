-- The tables of a GSUB lookup as OpenType lays them out, in 16-bit numbers ("words"): `lookup`, `coverage` what both kinds have; `single` SingleSubstFormat2; `Rule`, `first`, `leader`, `sets` rules and how they fall into sets; `offsets`, `evenly`, `joined` blocks that lie one behind the other;
-- `rule_words`, `set_words`, `ligature` Ligature, LigatureSet, LigatureSubstFormat1.
-- Assumes nothing.
use Rattle.std.specs.Prelude.{cond, List, [], ◌∷◌, ◌++◌, map, ℕ, zero, suc, ◌+◌, ◌*◌, eqb, length, get_or, drop}

-- Lookup: its type, its flags, the number of its subtables, and where the only one begins
abbrev pub lookup : ℕ → ℕ → List ℕ → List ℕ
lookup type flags subtable = type ∷ flags ∷ 1 ∷ 8 ∷ subtable

-- CoverageFormat1: format, count, glyphs
abbrev pub coverage : List ℕ → List ℕ
coverage glyphs = 1 ∷ length glyphs ∷ glyphs

-- SingleSubstFormat2: format, where the coverage begins, count, substitutes; then the coverage
unfoldable pub single : ℕ → List ℕ → List ℕ → List ℕ
single flags glyphs substitutes = lookup 1 flags (2 ∷ (6 + 2 * length substitutes) ∷ length substitutes ∷ (substitutes ++ coverage glyphs))

-- ---- rules and sets
-- a rule: its components, and the ligature that stands for them
pub record Rule : Type 0 where
  pub components : List ℕ
  pub ligature : ℕ

abbrev pub first : Rule → ℕ
first r = get_or r.components 0 0

-- the first component of a set's rules
abbrev pub leader : List Rule → ℕ
leader [] = 0
leader (r ∷ set) = first r

-- "A set starts where the first component differs from the rule before": a rule is of one set with the rule behind it if their first components are equal, and else is a set of its own
abbrev pub onto : Rule → List (List Rule) → List (List Rule)
onto r [] = (r ∷ []) ∷ []
onto r (set ∷ others) = cond (eqb (first r) (leader set)) ((r ∷ set) ∷ others) ((r ∷ []) ∷ set ∷ others)

unfoldable pub sets : List Rule → List (List Rule)
sets [] = []
sets (r ∷ rules) = onto r (sets rules)

-- ---- blocks of words
-- where they begin, if they lie one behind the other and the first begins at byte o
unfoldable pub offsets : ℕ → List (List ℕ) → List ℕ
offsets o [] = []
offsets o (block ∷ blocks) = o ∷ offsets (o + 2 * length block) blocks

unfoldable pub joined : List (List ℕ) → List ℕ
joined [] = []
joined (block ∷ blocks) = block ++ joined blocks

-- c numbers from o on, each `by` more than the one before: where blocks of one size begin
abbrev pub evenly : ℕ → ℕ → ℕ → List ℕ
evenly zero o by = []
evenly (suc c) o by = o ∷ evenly c (o + by) by

-- ---- the tables of a ligature lookup, whose rules have n components
-- Ligature: the ligature, the number of components, the components behind the first
unfoldable pub rule_words : ℕ → Rule → List ℕ
rule_words n r = r.ligature ∷ n ∷ drop 1 r.components

-- LigatureSet: count, where each rule begins, the rules
unfoldable pub set_words : ℕ → List Rule → List ℕ
set_words n set = length set ∷ (offsets (2 + 2 * length set) (map (rule_words n) set) ++ joined (map (rule_words n) set))

-- LigatureSubstFormat1 over sets: format, where the coverage begins, count, where each set begins; the coverage; the sets
unfoldable pub ligature_of : ℕ → ℕ → List (List Rule) → List ℕ
ligature_of flags n groups =
    lookup 4 flags
    (1
    ∷ (6 + 2 * length groups)
    ∷ length groups
    ∷ (offsets (10 + 4 * length groups) (map (set_words n) groups) ++ (coverage (map leader groups) ++ joined (map (set_words n) groups))))

unfoldable pub ligature : ℕ → ℕ → List Rule → List ℕ
ligature flags n rules = ligature_of flags n (sets rules)
