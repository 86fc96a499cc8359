-- Types of sixteen codes in one number, as the code keeps them: `packed` numbers below 16 in one; `digit` one of them; `word_in` the types of a block. No public contract cites them.
-- Assumes nothing.
use Rattle.std.specs.Prelude.{List, ℕ, zero, suc, ◌+◌, ◌*◌, ◌/◌, ◌%◌, ◌^◌}
use Rattle.listed.specs.Rows.{Row, type_in}

-- n numbers below 16 in one number, the first lowest
abbrev pub packed : ℕ → (ℕ → ℕ) → ℕ
packed zero f = 0
packed (suc n) f = packed n (λ k. f (suc k)) * 16 + f 0

-- the one at place k
abbrev pub digit : ℕ → ℕ → ℕ
digit word k = (word / 2 ^ (k * 4)) % 16

-- the types of a block of sixteen codes
unfoldable pub word_in : List Row → ℕ → ℕ
word_in rows block = packed 16 (λ k. type_in rows (block * 16 + k))
