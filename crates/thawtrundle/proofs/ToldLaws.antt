-- What is handed on, as the call inside says it: `handed` its number; `handed_with` a number and an answer beside what is left; `reordered_as`, `unmoved_as` those of reordered marks, and of marks that are not; `read_as_lem`, `unread_as` those of a lookup that is read, and of one that is not.
-- Assumes nothing.
use mathlib.Core.Path.{◌≡◌, refl, ap, ap₂, ◌∙◌}
use mathlib.Core.Bool.{Bool, false}
use mathlib.Core.List.{List, [], ◌∷◌}
use Prim.Native.Nat.{ℕ}
use lib.ListN.{length}
use Rattle.refusals.specs.declared.Refusal.{Refusal}
use Rattle.std.specs.Prelude.{Result, Ok, Err}
use Rattle.std.specs.Result.{result_unwrap_or}
use Rattle.refusals.specs.Numbers.{number_of, said}
use Rattle.refusals.specs.Left.{Left, After}
use Rattle.marks.specs.declared.Merged.{Merged}
use Rattle.marks.specs.Reordered as marks
use Rattle.reading.specs.declared.Lookup.{Lookup}
use Rattle.reading.specs.Read.{Columns, Answer, ReadOutcome, type_of, components_of_lem, outcome_said}
use Rattle.layouts.specs.Written as writes
use Rattle.stretching.specs.Stretching as stretches
use Rattle.recording.specs.Recorded.{recorded_said}
use Rattle.thawtrundle.specs.Told.{told, places, told_of, seen, read_as}

pub handed : {A : Type 0} {x : Left A} {n k : ℕ} {m : A} → n ≡ k → After k m ≡ x → After n m ≡ x
handed {A} {x} {n} {k} {m} e j = ap (λ (i : ℕ). After i m) e ∙ j

pub handed_with : {A B C : Type 0} (f : A → B → C) (rest : B) {x : Left C} {n k : ℕ} {a b : A} → n ≡ k → a ≡ b → After k (f b rest) ≡ x → After n (f a rest) ≡ x
handed_with f rest e g j = ap₂ After e (ap (λ a. f a rest) g) ∙ j

-- marks
module _ (r : marks.Answer) (d : marks.Columns) {x : Left marks.ReorderOutcome} (j : After (said r) (marks.reorder_outcome (marks.ranges_said r) d) ≡ x) where
  pub reordered_as : (m : Merged) {n : ℕ} {l : List ℕ} → r ≡ Ok m → n ≡ length (marks.listed m) → l ≡ places (marks.listed m) → After 0 (told n l d) ≡ seen told_of x
  reordered_as m e f g = rw (f, g) (ap (seen told_of) (rw e at j))

  pub unmoved_as : (k : Refusal) {n : ℕ} → r ≡ Err k → n ≡ number_of k → After n (told 0 (0 ∷ 0 ∷ 0 ∷ 0 ∷ []) d) ≡ seen told_of x
  unmoved_as k e f = rw f (ap (seen told_of) (rw e at j))

-- a lookup
module _ (r : Answer) (c : Columns) {x : Left ReadOutcome} (j : After (said r) (outcome_said r c) ≡ x) where
  pub read_as_lem :
      (l : Lookup) {t n : ℕ} → r ≡ Ok l → t ≡ type_of l.kind → n ≡ components_of_lem l.kind
      → After 0 (read_as t n l.flags l.len c) ≡ x
  read_as_lem l e f g = rw (f, g) (rw e at j)

  pub unread_as : (k : Refusal) {n : ℕ} → r ≡ Err k → n ≡ number_of k → After n (read_as 0 0 0 0 c) ≡ x
  unread_as k e f = rw f (rw e at j)

-- what is told beside the number: an answer's value, or 0 or no with a refusal
pub told_bytes : (r : Result ℕ Refusal) → result_unwrap_or r 0 ≡ writes.length_said r
told_bytes (Ok n) = refl
told_bytes (Err k) = refl

pub told_records : (r : Result ℕ Refusal) → result_unwrap_or r 0 ≡ stretches.length_said r
told_records (Ok n) = refl
told_records (Err k) = refl

pub told_recorded : (r : Result Bool Refusal) → result_unwrap_or r false ≡ recorded_said r
told_recorded (Ok any) = refl
told_recorded (Err k) = refl
