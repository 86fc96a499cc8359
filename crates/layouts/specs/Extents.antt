-- What of its sets decides whether a ligature lookup fits: `longest` how many rules the longest has; `last_from` with which rule the last begins.
-- Assumes nothing.
use Rattle.std.specs.Prelude.{List, [], ◌∷◌, ℕ, ◌+◌, max, length}
use Rattle.layouts.specs.Tables.{Rule}

-- without a set, 0
unfoldable pub longest : List (List Rule) → ℕ
longest [] = 0
longest (set ∷ sets) = max (length set) (longest sets)

-- the first of these sets begins with rule i, counted from 0; without a set, the last is one that began before
unfoldable pub last_from : ℕ → ℕ → List (List Rule) → ℕ
last_from before i [] = before
last_from before i (set ∷ sets) = last_from i (i + length set) sets
