-- What the letters beside a place see of each other past the letter at the place (`seen-ahead`, `seen_back`), and what stands beyond a record that
-- is there (`seen_beyond`).
-- Assumes nothing.
use mathlib.Core.Path.{◌≡◌, sym, ◌∙◌}
use mathlib.Core.Bool.{cond}
use mathlib.Core.List.{List}
use Prim.Native.Nat.{ℕ, ◌+◌, ◌<◌}
use native.Mathlib.Omega.{arith}
use borrow.Author.Tests.{lt-ltb}
use lib.Dec.{ltb}
use lib.ListN.{length, get_or, take, drop}
use Rattle.letters.specs.Types.{resolved}
use Rattle.shapes.specs.Joining.{passed, latest, nearest, line_types}
use Rattle.shapes.specs.Places.{place_before, place_of}
use Rattle.shapes.proofs.JoiningLaws.{length-line_types, line_types-at}
use Rattle.neighbours.proofs.NeighbourLaws.{nearest-here, latest-here, letter_across, letter-back}
use Rattle.joining.specs.Joinable.{Joinable}

-- a letter beyond the record at k, where there is such a record
pub seen_beyond : (k n r x y : ℕ) → r ≡ cond (ltb k n) x y → k < n → r ≡ x
seen_beyond k n r x y e h = e ∙ simp (lt-ltb k n h)

module _ {types categories : List ℕ} (letters : Joinable types categories) (k t : ℕ) (h : k < length types) (e : t ≡ resolved (get_or types k 0) (get_or categories k 0)) where
  abbrev ts : List ℕ
  ts = line_types types categories

  here : get_or ts k 0 ≡ t
  here = line_types-at types categories k letters.even h ∙ sym e

  size : length ts ≡ length types
  size = length-line_types types categories letters.even

  -- q sees t or, past it, the letter n
  pub seen-ahead :
      (a q n r : ℕ) → q ≡ place_before ts k → n ≡ nearest (drop (k + 1) ts) a → r ≡ passed n t → q < length types → r ≡ nearest (drop (q + 1) ts) a
  seen-ahead a q n r eq en er l =
      er ∙ sym (letter_across ts k q a eq (omega (arith, size)) ∙ nearest-here ts k (omega (arith, size)) a ∙ rw (here, ← en))

  -- n sees t or, past it, the letter q
  pub seen_back :
      (b q n r : ℕ) → q ≡ latest b (take k ts) → n ≡ k + 1 + place_of (drop (k + 1) ts) → r ≡ passed q t → r ≡ latest b (take n ts)
  seen_back b q n r eq en er = er ∙ sym (letter-back ts k n b en ∙ latest-here ts k (omega (arith, size)) b ∙ rw (here, ← eq))
