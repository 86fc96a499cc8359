-- A turn of the walk over a run of selectors, and that it does not leave the line.
-- Assumes nothing.
use mathlib.Core.Path.{◌≡◌}
use mathlib.Core.Bool.{Bool, true, false, cond}
use mathlib.Core.List.{List, [], ◌∷◌}
use Prim.Native.Nat.{ℕ, suc, ◌+◌, ◌<◌, ◌≤◌}
use native.Mathlib.Nat.{add-zero}
use native.Mathlib.Omega.{arith}
use lib.ListN.{length, get_or, drop, length-drop, drop_of_length-le}
use Rattle.laws.proofs.LoopLaws.{drop-next}
use Rattle.selectors.specs.Selectors.{selector, run}

module _ (cs : List ℕ) (i : ℕ) where
  -- the walk goes on at a selector
  pub run-goes : i < length cs → selector (get_or cs i 0) ≡ true → i + run (drop i cs) ≡ i + 1 + run (drop (i + 1) cs)
  run-goes h s = simp (drop-next cs i 0 h, s) (omega arith)

  -- and stops at any other
  pub run-stops : i < length cs → selector (get_or cs i 0) ≡ false → i + run (drop i cs) ≡ i
  run-stops h s = simp (drop-next cs i 0 h, s) (add-zero i)

  pub run_ends : length cs ≤ i → i + run (drop i cs) ≡ i
  run_ends h = rw (drop_of_length-le cs h) (add-zero i)

run_length : (cs : List ℕ) → run cs ≤ length cs
run_length [] = omega arith
run_length (c ∷ cs) = go (selector c) (run_length cs)
  where
    go : (s : Bool) → run cs ≤ length cs → cond s (suc (run cs)) 0 ≤ suc (length cs)
    go true h = omega arith
    go false h = omega arith

-- it does not leave the line
pub run-within : (cs : List ℕ) (i : ℕ) → i ≤ length cs → i + run (drop i cs) ≤ length cs
run-within cs i h = omega (arith, run_length (drop i cs), length-drop i cs)
