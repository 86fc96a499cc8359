-- What scanning a part of a lookup in bytes answers: `Scanned` an answer; `from` the words from a place on; `after` how the scan of these goes on; `Took` that a part was taken, said a value and ended at a place, or stopped; `these` the part that is certain words; `Counts` what is known of a count that was taken.
-- Assumes nothing.
use Rattle.std.specs.Prelude.{◌≡◌, List, ℕ, ◌-◌, ◌/◌, ◌≤◌, length, Result, Ok, Err}
use Rattle.words.specs.Words.{words_at}
use Rattle.scanning.specs.Scans.{Scan, Rest, wrong, short, exactly}
use Rattle.accepting.specs.declared.Fault.{Fault}
use Rattle.accepting.specs.declared.Fault.TheVariants.{Wrong, Short}

-- where a part ends, or why the scan stopped in it
abbrev pub Scanned : Type 0
Scanned = Result ℕ Fault

-- the words from byte p on
unfoldable pub from : List ℕ → ℕ → List ℕ
from b p = words_at b p ((length b - p) / 2)

-- the scan goes on at a place; it stops at a word; the bytes end too soon
unfoldable pub after : Scanned → List ℕ → Rest → Scan
after (Ok p) b k = k (from b p)
after (Err (Wrong p)) b k = wrong ((length b - p) / 2)
after (Err Short) b k = short

-- the place is that of the end, which is in the bytes
abbrev pub Stands : Scanned → ℕ → ℕ → Type 0
Stands (Ok p) end room = (p ≡ end) × (p ≤ room)
Stands (Err f) end room = Unit

-- from byte p on, a part of a lookup was taken: it said the value and ended at byte `end`, or the scan stopped in it
pub record Took {A : Type 0} (part : (A → Rest) → Rest) (value : A) (end : ℕ) (b : List ℕ) (p : ℕ) (r : Scanned) : Type 0 where
  pub goes : (k : A → Rest) → part k (from b p) ≡ after r b (k value)
  pub place : Stands r end (length b)

-- certain words, which say nothing
abbrev pub these : List ℕ → (Unit {0} → Rest) → Rest
these ws k = exactly ws (k tt)

-- where a count was taken from the offset o, it is 6 and twice the count, which is at most `most`
abbrev pub Counts : Scanned → ℕ → ℕ → Type 0
Counts (Ok p) most o = (6 ≤ o) × ((o - 6) / 2 ≤ most)
Counts (Err f) most o = Unit
