-- What a derived `==` or `!=` of two numbers says, once its answer is known.
-- Assumes nothing.
use mathlib.Core.Path.{◌≡◌, sym, ◌∙◌}
use mathlib.Core.Bool.{Bool, true, false, not}
use Prim.Native.Nat.{ℕ}
use borrow.Author.Tests.{eqb-true, eqb-false, not-true, not-false}
use lib.Dec.{eqb}

module _ {x : Bool} (a b : ℕ) where
  pub same : x ≡ eqb a b → x ≡ true → a ≡ b
  same e h = eqb-true a b (sym e ∙ h)

  pub other : x ≡ eqb a b → x ≡ false → a ≡ b → ⊥
  other e h = eqb-false a b (sym e ∙ h)

  pub ne_other : x ≡ not (eqb a b) → x ≡ true → a ≡ b → ⊥
  ne_other e h = eqb-false a b (not-true (eqb a b) (sym e ∙ h))

  pub ne_same : x ≡ not (eqb a b) → x ≡ false → a ≡ b
  ne_same e h = eqb-true a b (not-false (eqb a b) (sym e ∙ h))
