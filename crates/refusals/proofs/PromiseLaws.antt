-- What every public call promises follows from the form of its statement: `kept`.
-- Assumes nothing.
use mathlib.Core.Path.{◌≡◌}
use mathlib.Core.Bool.{true}
use mathlib.Core.List.{List}
use Prim.Native.Nat.{ℕ}
use Rattle.laws.specs.Rows.{Row, first}
use Rattle.laws.proofs.RowLaws.{rise}
use Rattle.refusals.specs.Left.{After, leaves}
use Rattle.refusals.specs.Promises.{Kept}
use Rattle.refusals.proofs.LeftLaws.{alike, left_stays, left-smallest}

-- a call whose statement says the number of its rows, and what is told then: `old` of what was lent, where it is refused, or else `new`. What is told
-- tells the answer and all that was lent
pub record Stated {Asked Lent Answer Told : Type 0} (Call : Asked → Lent → Answer → Lent → Type 0) (number : Answer → ℕ) (rows : Asked → Lent → List Row) (Idle : Answer → Lent → Type 0) (told : Answer → Lent → Told) (old : Lent → Told) (new : Asked → Lent → Told) : Type 0 where
  pub says : (q : Asked) (l : Lent) (r : Answer) (m : Lent) → Call q l r m → After (number r) (told r m) ≡ leaves (first (rows q l)) (old l) (new q l)
  pub rising : (q : Asked) (l : Lent) → rise 0 (rows q l) ≡ true
  pub fixed : (r u : Answer) (m n : Lent) → number r ≡ number u → told r m ≡ told u n → (r ≡ u) × (m ≡ n)
  pub idle : (r : Answer) (l m : Lent) → told r m ≡ old l → (m ≡ l) × Idle r m

module _ {Asked Lent Answer Told : Type 0} {Call : Asked → Lent → Answer → Lent → Type 0} {number : Answer → ℕ} {rows : Asked → Lent → List Row} {Idle : Answer → Lent → Type 0} {told : Answer → Lent → Told} {old : Lent → Told} {new : Asked → Lent → Told} (s : Stated Call number rows Idle told old new) where
  pub kept : Kept Call number rows Idle
  kept =
      record {
        one_answer = λ q l r u m n x y.
            let g = alike (number r) (number u) (told r m) (told u n) _ (s.says q l r m x) (s.says q l u n y) in
            s.fixed r u m n g.0 g.1;
        refused_stays = λ q l r m x d. s.idle r l m (left_stays (first (rows q l)) (old l) (new q l) (number r) (told r m) (s.says q l r m x) d);
        smallest-number = λ q l r m x. left-smallest (rows q l) (s.rising q l) (old l) (new q l) (number r) (told r m) (s.says q l r m x);
      }
