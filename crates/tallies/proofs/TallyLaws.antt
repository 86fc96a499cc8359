-- A program's loop over the cases ends: each case that is counted leaves fewer that can be.
-- Assumes nothing.
use Prim.Native.Nat.{ℕ, ◌-◌, ◌<◌}
use mathlib.Core.Bool.{Bool, true, false, ◌&&◌, false≢true}
use mathlib.Core.Path.{◌≡◌, sym, ◌∙◌}
use native.Mathlib.Omega.{arith}
use borrow.Author.Tests.{ltb-true}
use lib.Dec.{ltb}
use Rattle.tallies.specs.declared.Tally.{Tally}
use Rattle.tallies.specs.declared.Outcome.{Outcome}
use Rattle.tallies.specs.Counting.{is_case_lem, last, up, counted, goes_on_lem}

-- How many more cases can be counted.
abbrev pub ahead : Tally → ℕ
ahead t = last - t.cases

-- One more that can be counted leaves fewer.
up-ahead : (b : Bool) (n : ℕ) → (b && ltb n last) ≡ true → last - up b n < last - n
up-ahead true n e = rw e (omega (arith, ltb-true n last e))
up-ahead false n e = absurd (false≢true e)

-- A tally of which `r` said that it goes on, counted to `t'`.
pub counted-ahead : (t : Tally) (what : Outcome) {r : Bool} {t' : Tally} → r ≡ goes_on_lem t what → r ≡ true → t' ≡ counted t what
    → ahead t' < ahead t
counted-ahead t what g e d = rw d (up-ahead (is_case_lem what) t.cases (sym g ∙ e))
