-- A lookup as OpenType says that it is found in bytes, by following the offsets that stand there: `subtable_at`, `coverage_at` where the subtable and its coverage begin; `pairs_from` what SingleSubstFormat2 replaces; `rule_at` Ligature; `rules_from`, `set_at` LigatureSet; `sets_from` the sets of LigatureSubstFormat1; `followed` the rules of a lookup of either kind.
-- Assumes nothing.
use Rattle.std.specs.Prelude.{cond, List, [], ◌∷◌, ◌++◌, ℕ, zero, suc, ◌+◌, ◌-◌, eqb}
use Rattle.words.specs.Words.{word_at, words_at}
use Rattle.layouts.specs.Tables.{Rule}

-- Lookup: lookup_type at byte 0, lookup_flag at 2, sub_table_count at 4, subtable_offsets[0] at 6, from the beginning of the lookup
abbrev pub subtable_at : List ℕ → ℕ
subtable_at b = word_at b 6

-- both substitution subtables: coverage_offset at byte 2, from the beginning of the subtable. CoverageFormat1: coverage_format at byte 0, glyph_count at 2, glyph_array at 4
abbrev pub coverage_at : List ℕ → ℕ
coverage_at b = subtable_at b + word_at b (subtable_at b + 2)

-- SingleSubstFormat2: each glyph of the coverage, the first at byte g, with its substitute, the first at byte s
unfoldable pub pairs_from : List ℕ → ℕ → ℕ → ℕ → List Rule
pairs_from b g s zero = []
pairs_from b g s (suc count) = record { components = word_at b g ∷ []; ligature = word_at b s } ∷ pairs_from b (g + 2) (s + 2) count

-- Ligature: ligature_glyph at byte 0, component_count at 2, component_glyph_iDs[component_count - 1] at 4, without the first, which the coverage has
abbrev pub rule_at : List ℕ → ℕ → ℕ → Rule
rule_at b lead p = record { components = lead ∷ words_at b (p + 4) (word_at b (p + 2) - 1); ligature = word_at b p }

-- LigatureSet at byte p: ligature_count at byte 0, ligature_offsets at 2, from the beginning of the set; `rules_from` from the offset at byte o on
unfoldable pub rules_from : List ℕ → ℕ → ℕ → ℕ → ℕ → List Rule
rules_from b lead p o zero = []
rules_from b lead p o (suc count) = rule_at b lead (p + word_at b o) ∷ rules_from b lead p (o + 2) count

abbrev pub set_at : List ℕ → ℕ → ℕ → List Rule
set_at b lead p = rules_from b lead p (p + 2) (word_at b p)

-- LigatureSubstFormat1 at byte t: each glyph of the coverage, the first at byte g, with its set, whose offset counts from the beginning of the subtable, the first at byte o
unfoldable pub sets_from : List ℕ → ℕ → ℕ → ℕ → ℕ → List Rule
sets_from b t g o zero = []
sets_from b t g o (suc count) = set_at b (word_at b g) (t + word_at b o) ++ sets_from b t (g + 2) (o + 2) count

-- lookup_type 1 is single, 4 is ligature; in both subtables the count stands at byte 4, substitutes or offsets from 6 on. What a glyph is replaced by is a rule of one component
abbrev pub followed : List ℕ → List Rule
followed b =
    cond (eqb (word_at b 0) 1)
    (pairs_from b (coverage_at b + 4) (subtable_at b + 6) (word_at b (subtable_at b + 4)))
    (sets_from b (subtable_at b) (coverage_at b + 4) (subtable_at b + 6) (word_at b (subtable_at b + 4)))
