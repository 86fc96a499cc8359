-- The last step of a plan: an area that is too short is left as it was (`too_short`), any other has the bytes of the draft at its start (`put_in`). Which entries are planned (`plan-unicode`, `plan-direct`), and what the whole call answers, refused by its columns (`refused_planning`) or not (`settled-planning`).
-- Assumes nothing.
use mathlib.Core.Path.{◌≡◌, refl, sym, ap, ◌∙◌}
use mathlib.Core.List.{List, ◌++◌}
use Prim.Native.Nat.{ℕ, ◌+◌, ◌<◌, ◌≤◌}
use native.Mathlib.Nat.{zero-add}
use native.Mathlib.Omega.{arith}
use borrow.Author.Tests.{eq-eqb, ne_eqb, lt-ltb, le-ltb}
use lib.ListN.{length, drop}
use lib.Seq.{slice}
use Rattle.laws.specs.Lists.{pasted}
use Rattle.laws.specs.Rows.{first}
use Rattle.laws.proofs.RowLaws.{first-before, first-behind}
use Rattle.refusals.specs.declared.Refusal.TheVariants.{NoRoom}
use Rattle.refusals.specs.declared.Refusal.{Refusal}
use Rattle.refusals.specs.Numbers.{number_of}
use Rattle.std.specs.Prelude.{Ok, Err}
use Rattle.refusals.specs.Left.{leaves}
use Rattle.refusals.proofs.LeftLaws.{left_refused}
use Rattle.words.proofs.WordLaws.{paste_front}
use Rattle.refusals.proofs.VerdictLaws.{refused_number}
use Rattle.drafts.specs.declared.Draft.{Draft}
use Rattle.drafts.specs.Entries.{all_bytes}
use Rattle.windows.specs.Windows.{direct}
use Rattle.fallback.specs.Plan.{Inputs, unicode, plan}
use Rattle.fallback.specs.Planned.{PlanAnswer, lent_rows, room_row, plan_refusal, nothing, made, Settled, Settles, Planning}

-- ---- the last step
module _ (d : Draft) (scratch area : List ℕ) where
  pub too_short : length area < d.end → Settles d scratch area (Err NoRoom) area
  too_short h entries p = rw (lt-ltb (length area) (length (all_bytes entries)) (omega (arith, p.ends)))

  abbrev answer : PlanAnswer
  answer = Ok (record { count = d.count; masks = d.masks; lengths = d.lengths })

  pub put_in : d.end ≤ length area → (left : List ℕ) → left ≡ pasted (slice 0 (0 + d.end) scratch) 0 area → Settles d scratch area answer left
  put_in h left e entries p =
      let same : slice 0 (0 + d.end) scratch ≡ all_bytes entries = ap (λ (n : ℕ). slice 0 n scratch) (zero-add d.end) ∙ p.holds in
      let there : left ≡ all_bytes entries ++ drop (length (all_bytes entries)) area = e ∙ ap (λ (l : List ℕ). pasted l 0 area) same ∙ paste_front (all_bytes entries) area in
      rw (le-ltb (length area) (length (all_bytes entries)) (omega (arith, p.ends)), p.counted, p.masked, p.measured, there)

-- ---- which entries are planned
module _ (i : Inputs) where
  pub plan-unicode : (length (unicode i) ≡ 0 → ⊥) → unicode i ≡ plan i
  unfolding plan
  plan-unicode h = rw (ne_eqb (length (unicode i)) 0 h)

  pub plan-direct : length (unicode i) ≡ 0 → direct i.masks i.font ≡ plan i
  unfolding plan
  plan-direct h = rw (eq-eqb (length (unicode i)) 0 h)

  -- ---- the whole call
  module _ (area : List ℕ) where
    pub refused_planning : (k : Refusal) → number_of k ≡ first (lent_rows i) → Planning i area (Err k) area
    unfolding plan_refusal
    refused_planning k e =
        let some = refused_number k in
        let number : number_of k ≡ plan_refusal i (length area) = e ∙ sym (first-before (lent_rows i) (room_row (plan i) (length area)) (λ z. some (e ∙ z))) in
        left_refused (plan_refusal i (length area)) (nothing area) (made (plan i) area) (number_of k) number some

    pub settled-planning : first (lent_rows i) ≡ 0 → (r : PlanAnswer) (left : List ℕ) → Settled (plan i) area r left → Planning i area r left
    unfolding plan_refusal
    settled-planning z r left s =
        s ∙ ap (λ (n : ℕ). leaves n (nothing area) (made (plan i) area)) (sym (first-behind 0 (lent_rows i) (room_row (plan i) (length area)) refl z))
