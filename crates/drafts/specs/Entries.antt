-- The entries of a plan (document 01: "at most seven entries, each a mask and a byte length, and the lookups' bytes one after another"): `Entry` a mask and a lookup; `entry` the entry of rules, if there is one; `bytes_of`, `size_of`, `all_bytes` the bytes of lookups, and how many; `seven`, `padded`, `masks_of`, `lengths_of` what is said of entries, in seven places; `rule_limit`, `most` how many rules a lookup of a plan has at most, and how many bytes; `longest_plan`, `longest_direct` how many bytes a plan has at most.
-- Assumes nothing.
use Rattle.std.specs.Prelude.{cond, ◌||◌, List, [], ◌∷◌, ◌++◌, map, ℕ, ◌+◌, ◌*◌, eqb, length, drop}
use Rattle.words.specs.Words.{bytes}
use Rattle.layouts.specs.declared.Kind.{Kind}
use Rattle.layouts.specs.declared.Kind.TheVariants.{Single, Ligature}
use Rattle.layouts.specs.Tables.{Rule}
use Rattle.layouts.specs.Lookups.{Lookup, words_of, listed}

pub record Entry : Type 0 where
  pub mask : ℕ
  pub lookup : Lookup

-- "zero masks skipped"; a lookup of no rules is left out
abbrev pub entry : ℕ → ℕ → Kind → List Rule → List Entry
entry mask flags kind rules = cond (eqb mask 0 || eqb (length rules) 0) [] (record { mask = mask; lookup = listed flags kind rules } ∷ [])

-- the bytes of an entry's lookup, and of all, one lookup behind the other
abbrev pub bytes_of : Entry → List ℕ
bytes_of e = bytes (words_of e.lookup)

abbrev pub size_of : Entry → ℕ
size_of e = length (bytes_of e)

unfoldable pub all_bytes : List Entry → List ℕ
all_bytes [] = []
all_bytes (e ∷ entries) = bytes_of e ++ all_bytes entries

-- places for the numbers of entries, zeros where there is none
abbrev pub seven : List ℕ
seven = 0 ∷ 0 ∷ 0 ∷ 0 ∷ 0 ∷ 0 ∷ 0 ∷ []

abbrev pub padded : List ℕ → List ℕ
padded numbers = numbers ++ drop (length numbers) seven

-- what an answer says of entries: their masks, and how many bytes each lookup has
abbrev pub masks_of : List Entry → List ℕ
masks_of entries = padded (map (λ e. e.mask) entries)

abbrev pub lengths_of : List Entry → List ℕ
lengths_of entries = padded (map size_of entries)

-- "a rule list of the plan over 1,024 rows" is refused, so no lookup has more rules, and none has more bytes than these
abbrev pub rule_limit : ℕ
rule_limit = 1024

abbrev pub most : Kind → ℕ
most Single = 18 + 4 * rule_limit
most (Ligature n) = 18 + 6 * rule_limit + rule_limit * (4 + 2 * n)

-- the bytes of the longest plan: four lookups of forms, one of ligatures of three components, two of two. And of the longest for a Windows-1256 font: three of forms, two of ligatures
abbrev pub longest_plan : ℕ
longest_plan = 4 * most Single + (most (Ligature 3) + 2 * most (Ligature 2))

abbrev pub longest_direct : ℕ
longest_direct = 3 * most Single + 2 * most (Ligature 2)
