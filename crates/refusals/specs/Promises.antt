-- What every public call promises, whatever it is asked for, lent and answers: `OneAnswer`, `RefusedStays`, `SmallestNumber`; `Kept` all three.
-- Assumes nothing.
use Rattle.std.specs.Prelude.{◌≡◌, true, List, ℕ, ◌<◌, ◌≤◌}
use Rattle.laws.specs.Rows.{Row, Has}

-- a call by its statement: asked for q and lent l, it may answer r and leave m
module _ {Asked Lent Answer : Type 0} (Call : Asked → Lent → Answer → Lent → Type 0) where
  -- any two answers that the statement allows are equal, and so is what they leave
  abbrev pub OneAnswer : Type 0
  OneAnswer = (q : Asked) (l : Lent) (r u : Answer) (m n : Lent) → Call q l r m → Call q l u n → (r ≡ u) × (m ≡ n)

  -- a number other than 0 is a refusal: all that was lent is as it was, and the answer says nothing else
  abbrev pub RefusedStays : (Answer → ℕ) → (Answer → Lent → Type 0) → Type 0
  RefusedStays number Idle = (q : Asked) (l : Lent) (r : Answer) (m : Lent) → Call q l r m → (number r ≡ 0 → ⊥) → (m ≡ l) × Idle r m

  -- by the rows of a table of refusals: a number that is given is that of a row that applies; where a row applies, a number is given, and no larger one
  abbrev pub SmallestNumber : (Answer → ℕ) → (Asked → Lent → List Row) → Type 0
  SmallestNumber number rows =
      (q : Asked) (l : Lent) (r : Answer) (m : Lent) → Call q l r m
      → ((number r ≡ 0 → ⊥) → Has (rows q l) (number r) true) × ((n : ℕ) → Has (rows q l) n true → (0 < number r) × (number r ≤ n))

  pub record Kept (number : Answer → ℕ) (rows : Asked → Lent → List Row) (Idle : Answer → Lent → Type 0) : Type 0 where
    pub one_answer : OneAnswer
    pub refused_stays : RefusedStays number Idle
    pub smallest-number : SmallestNumber number rows
