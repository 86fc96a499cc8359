-- Modifier combining marks: `modifiers` the source's list; `modifier` that a code stands in it.
-- Assumes nothing.
use Rattle.std.specs.Prelude.{Bool, List, [], ◌∷◌, ℕ}
use Rattle.laws.specs.Lists.{member}

-- "the source's list of 14 codes"
abbrev pub modifiers : List ℕ
modifiers =
    0x0654 ∷ 0x0655 ∷ 0x0658 ∷ 0x06DC ∷ 0x06E3 ∷ 0x06E7 ∷ 0x06E8 ∷ 0x08CA ∷ 0x08CB ∷ 0x08CD ∷ 0x08CE ∷ 0x08CF ∷ 0x08D3 ∷ 0x08F3 ∷ []

unfoldable pub modifier : ℕ → Bool
modifier code = member code modifiers
