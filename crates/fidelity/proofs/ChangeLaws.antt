-- The sets of rules, by where their first components change: the first of each set are these (`leaders_changes`), so that there are as many sets (`length-changes`).
-- Assumes nothing.
use mathlib.Core.Path.{◌≡◌, refl, sym, ap, ◌∙◌}
use mathlib.Core.Bool.{Bool, true, false, cond}
use mathlib.Core.List.{List, [], ◌∷◌, map}
use Prim.Native.Nat.{ℕ}
use native.Mathlib.Omega.{arith}
use lib.Dec.{eqb}
use lib.ListN.{length, get_or, drop, length-map}
use Rattle.layouts.specs.Tables.{Rule, first, leader, onto, sets}
use Rattle.fidelity.specs.Writing.{behind, changes}

pub leaders_changes : (rs : List Rule) → map leader (sets rs) ≡ changes (map first rs)
unfolding sets
leaders_changes [] = refl
leaders_changes (r ∷ rs) = go (sets rs) (map first rs) (leaders_changes rs)
  where
    go : (gs : List (List Rule)) (xs : List ℕ) → map leader gs ≡ changes xs → map leader (onto r gs) ≡ changes (first r ∷ xs)
    go [] [] e = refl
    go [] (x ∷ xs) e = absurd (omega (arith, ap length e))
    go (g ∷ gs) [] e = absurd (omega (arith, ap length e))
    go (g ∷ gs) (x ∷ xs) e = rw (← ap (λ (l : List ℕ). get_or l 0 0) e) (same (eqb (first r) (leader g)) (ap (drop 1) e))
      where
        same :
            (t : Bool) → map leader gs ≡ behind x xs
            → map leader (cond t ((r ∷ g) ∷ gs) ((r ∷ []) ∷ g ∷ gs)) ≡ first r ∷ cond t (behind (leader g) xs) (leader g ∷ behind (leader g) xs)
        same true f = ap (λ (l : List ℕ). first r ∷ l) (f ∙ ap (λ (y : ℕ). behind y xs) (sym (ap (λ (l : List ℕ). get_or l 0 0) e)))
        same false f = ap (λ (l : List ℕ). first r ∷ leader g ∷ l) (f ∙ ap (λ (y : ℕ). behind y xs) (sym (ap (λ (l : List ℕ). get_or l 0 0) e)))

pub length-changes : (rs : List Rule) → length (changes (map first rs)) ≡ length (sets rs)
length-changes rs = sym (ap length (leaders_changes rs)) ∙ length-map (sets rs) leader
