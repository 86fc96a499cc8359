-- What the call that makes a plan promises, of every input, by its statement (`Planning` of crate fallback): `Promised` what every call promises (`Kept` of crate refusals); `Says`, `AcceptedPlans` what an accepted call answers, `AtMostSeven`; `total`, `PastTheAnswer`; `UnicodeFirst`, `WindowsSecond`, `EmptyOtherwise` which lookups are planned. Of the call that says whether there is to be a plan (`fallback_on`): `SwitchedOn`.
-- Assumes nothing.
use Rattle.std.specs.Prelude.{◌≡◌, Bool, true, false, ◌↔◌, List, [], ◌∷◌, ℕ, ◌+◌, ◌<◌, ◌≤◌, length, take}
use Rattle.laws.specs.Lists.{Past}
use Rattle.laws.specs.Rows.{first}
use Rattle.refusals.specs.Numbers.{said}
use Rattle.refusals.specs.Promises.{Kept}
use Rattle.drafts.specs.Entries.{Entry, all_bytes, seven, masks_of, lengths_of}
use Rattle.windows.specs.Windows.{signed, windows}
use Rattle.fallback.specs.declared.Needs.{Needs}
use Rattle.fallback.specs.Plan.{Inputs, unicode, plan}
use Rattle.fallback.specs.Planned.{PlanAnswer, plan_said, lent_rows, plan_rows, Planning}
use Rattle.fallback.specs.Switch.{fallback_on}

-- What every call promises, of this one: one answer; a refusal alters no byte and answers zeros; the smallest number that applies is given.
abbrev pub Promised : Type 0
Promised = Kept Planning (λ r. said r) (λ i area. plan_rows i (length area)) (λ r _. ((plan_said r).count ≡ 0) × ((plan_said r).masks ≡ seven) × ((plan_said r).lengths ≡ seven))

-- ---- what an accepted call answers
-- r says these entries, how many, their masks and their byte lengths, and the area begins with their bytes, one lookup behind the other
pub record Says (entries : List Entry) (r : PlanAnswer) (left : List ℕ) : Type 0 where
  pub counted : (plan_said r).count ≡ length entries
  pub masked : (plan_said r).masks ≡ masks_of entries
  pub measured : (plan_said r).lengths ≡ lengths_of entries
  pub begins : take (length (all_bytes entries)) left ≡ all_bytes entries

-- An accepted call answers the plan of its inputs.
abbrev pub AcceptedPlans : Type 0
AcceptedPlans = (i : Inputs) (area : List ℕ) (r : PlanAnswer) (left : List ℕ) → Planning i area r left → said r ≡ 0 → Says (plan i) r left

-- "The answer is at most seven entries": refused or not, with seven places for masks and seven for lengths.
abbrev pub AtMostSeven : Type 0
AtMostSeven =
    (i : Inputs) (area : List ℕ) (r : PlanAnswer) (left : List ℕ) → Planning i area r left
    → ((plan_said r).count ≤ 7) × (length (plan_said r).masks ≡ 7) × (length (plan_said r).lengths ≡ 7)

-- all of them together
abbrev pub total : List ℕ → ℕ
total [] = 0
total (n ∷ lengths) = n + total lengths

-- The area past the answered bytes, as many as the answered lengths say, is untouched, all of it where the plan is refused; and the area neither grows nor shrinks.
abbrev pub PastTheAnswer : Type 0
PastTheAnswer = (i : Inputs) (area : List ℕ) (r : PlanAnswer) (left : List ℕ) → Planning i area r left → Past (total (plan_said r).lengths) area left

-- ---- which lookups are planned
-- Where a lookup results by Unicode's presentation forms, these are the plan, whether the font has the signature of Windows-1256 or not.
abbrev pub UnicodeFirst : Type 0
UnicodeFirst =
    (i : Inputs) (area : List ℕ) (r : PlanAnswer) (left : List ℕ) → Planning i area r left → said r ≡ 0
    → 0 < length (unicode i) → Says (unicode i) r left

-- Where none results and the font has the signature, the plan is the tables for Windows-1256 that have a mask.
abbrev pub WindowsSecond : Type 0
WindowsSecond =
    (i : Inputs) (area : List ℕ) (r : PlanAnswer) (left : List ℕ) → Planning i area r left → said r ≡ 0
    → length (unicode i) ≡ 0 → signed i.font ≡ true → Says (windows i.masks) r left

-- Where none results and the font has not the signature, the plan is empty, and any area has room for it, also one of no bytes: only what is lent to read can be refused.
abbrev pub EmptyOtherwise : Type 0
EmptyOtherwise =
    (i : Inputs) (area : List ℕ) (r : PlanAnswer) (left : List ℕ) → Planning i area r left
    → length (unicode i) ≡ 0 → signed i.font ≡ false → (said r ≡ first (lent_rows i)) × (left ≡ area) × Says [] r left

-- ---- whether there is to be a plan
-- "Fallback is on for the Arabic script if each of isol, fina, medi and init needs it", and else it is not.
abbrev pub SwitchedOn : Type 0
SwitchedOn =
    (arabic : Bool) (needs : Needs)
    → (fallback_on arabic needs ≡ true) ↔ ((arabic ≡ true) × (needs.isol ≡ true) × (needs.fina ≡ true) × (needs.medi ≡ true) × (needs.init ≡ true))
