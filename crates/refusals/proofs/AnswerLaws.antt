-- What a call leaves once its tests are done, by their own answer: a refusal goes on by `?` (`left-err`), and what is accepted is done (`left-ok`).
-- Assumes nothing.
use mathlib.Core.Path.{◌≡◌, refl, sym, ap, ◌∙◌}
use Prim.Native.Nat.{ℕ}
use Rattle.std.specs.Prelude.{Result, Ok, Err}
use Rattle.refusals.specs.declared.Refusal.{Refusal}
use Rattle.refusals.specs.Numbers.{number_of, said}
use Rattle.refusals.specs.Left.{After, leaves}
use Rattle.refusals.proofs.VerdictLaws.{refused_number}
use Rattle.refusals.proofs.LeftLaws.{left_refused, left-done}

module _ {A B : Type 0} (k : ℕ) (old new : A) (tests : Result B Refusal) (found : said tests ≡ k) where
  pub left-err : (x : Refusal) → tests ≡ Err x → After (number_of x) old ≡ leaves k old new
  left-err x e = left_refused k old new (number_of x) (sym (ap said e) ∙ found) (refused_number x)

  pub left-ok : (b : B) → tests ≡ Ok b → (m : A) → m ≡ new → After 0 m ≡ leaves k old new
  left-ok b e m d = left-done k old new 0 m (sym (ap said e) ∙ found) refl d

  -- what is accepted has no number
  pub ok-number : (b : B) → tests ≡ Ok b → k ≡ 0
  ok-number b e = sym found ∙ ap said e
