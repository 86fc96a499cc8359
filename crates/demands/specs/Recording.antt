-- What recording `stch` promises, of every request, by the call's statement (`Recording` of crate recording): `Promised` what every call promises (`Kept` of crate refusals); `OnlyMultiplied`, `ByParity` what becomes of an action;
-- `SaysWhether` what the answer says; `NothingHappens` that it says so truly.
-- Assumes nothing.
use Rattle.std.specs.Prelude.{◌≡◌, true, false, List, ℕ, ◌%◌, get_or}
use Rattle.refusals.specs.Numbers.{said}
use Rattle.refusals.specs.Promises.{Kept}
use Rattle.letters.specs.Actions.{fixed, repeating}
use Rattle.recording.specs.Recorded.{RecordRequest, record_rows, Answer, recorded_said, Recording}

-- What every call promises, of this one: one answer; a refusal alters nothing and says that nothing was recorded; the smallest number that applies is given.
abbrev pub Promised : Type 0
Promised = Kept Recording said record_rows (λ r _. recorded_said r ≡ false)

-- A record that is not multiplied keeps its action.
abbrev pub OnlyMultiplied : Type 0
OnlyMultiplied =
    (q : RecordRequest) (actions : List ℕ) (r : Answer) (left : List ℕ) → Recording q actions r left
    → (i : ℕ) → get_or q.multiplied i 0 ≡ 0 → get_or left i 0 ≡ get_or actions i 0

-- With a mask, an accepted request makes each multiplied record repeating if its component number is odd, and fixed if it is even.
abbrev pub ByParity : Type 0
ByParity =
    (q : RecordRequest) (actions : List ℕ) (r : Answer) (left : List ℕ) → Recording q actions r left → said r ≡ 0 → (q.mask ≡ 0 → ⊥)
    → (i : ℕ) → (get_or q.multiplied i 0 ≡ 0 → ⊥)
    → (get_or q.components i 0 % 2 ≡ 1 → get_or left i 0 ≡ repeating) × (get_or q.components i 0 % 2 ≡ 0 → get_or left i 0 ≡ fixed)

-- An accepted request answers yes exactly when there is a mask and some record is multiplied.
abbrev pub SaysWhether : Type 0
SaysWhether =
    (q : RecordRequest) (actions : List ℕ) (r : Answer) (left : List ℕ) → Recording q actions r left → said r ≡ 0
    → (recorded_said r ≡ true → (q.mask ≡ 0 → ⊥) × (i : ℕ) × (get_or q.multiplied i 0 ≡ 0 → ⊥))
    × ((q.mask ≡ 0 → ⊥) → (i : ℕ) → (get_or q.multiplied i 0 ≡ 0 → ⊥) → recorded_said r ≡ true)

-- Where the answer is no, nothing has happened: the actions are as they were.
abbrev pub NothingHappens : Type 0
NothingHappens = (q : RecordRequest) (actions : List ℕ) (r : Answer) (left : List ℕ) → Recording q actions r left → recorded_said r ≡ false → left ≡ actions
