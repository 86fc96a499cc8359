-- What is known of the call: an answer is known by its number and by what it says was recorded (`same_answer`);
-- a request that is not refused (`Allowed`, `allowed`); what recording gives with a mask and without one (`recorded-masked`, `recorded-unmasked`).
-- Assumes nothing.
use mathlib.Core.Path.{◌≡◌, sym, ap, ap₂, ◌∙◌}
use mathlib.Core.Bool.{Bool, false, cond, not, ◌||◌}
use mathlib.Core.List.{List, [], ◌∷◌}
use Prim.Native.Nat.{ℕ, ◌≤◌}
use borrow.Author.Tests.{not-false, eqb-true, ltb-false, eq-eqb, ne_eqb}
use lib.Dec.{eqb, ltb}
use lib.ListN.{length}
use Rattle.laws.specs.Rows.{Given}
use Rattle.laws.proofs.RowLaws.{first-none}
use Rattle.laws.proofs.TestLaws.{neither}
use Rattle.refusals.specs.Columns.{line_limit}
use Rattle.refusals.specs.declared.Refusal.{Refusal}
use Rattle.std.specs.Prelude.{Ok, Err}
use Rattle.refusals.specs.Numbers.{said}
use Rattle.refusals.proofs.VerdictLaws.{same-said, refused_number}
use Rattle.recording.specs.Recorded.{RecordRequest, RecordOutcome, record_outcome, some, new_actions, recorded, record_refusal, Answer, recorded_said}

-- ---- an answer is known by what it says
pub same_answer : (r u : Answer) → said r ≡ said u → recorded_said r ≡ recorded_said u → r ≡ u
same_answer (Ok any) (Ok other) n e = ap (λ (b : Bool). Ok b) e
same_answer (Ok any) (Err k) n e = absurd (refused_number k (sym n))
same_answer (Err k) (Ok any) n e = absurd (refused_number k n)
same_answer (Err k) (Err l) n e =
    let v = same-said (Err k) (Err l) n in
    let same : k ≡ l = cc in
    ap (λ (x : Refusal). Err x) same

-- ---- a request that is not refused
-- of the rows that recording uses, none applies
pub record Allowed (q : RecordRequest) (actions : List ℕ) : Type 0 where
  pub even : length q.multiplied ≡ length q.components
  pub even-actions : length q.multiplied ≡ length actions
  pub few : length q.multiplied ≤ line_limit

pub allowed : (q : RecordRequest) (actions : List ℕ) → record_refusal q actions ≡ 0 → Allowed q actions
unfolding record_refusal
allowed q actions z =
    let n = length q.multiplied in
    let components = not (eqb n (length q.components)) in
    let others = not (eqb n (length actions)) in
    let uneven-not = first-none 0 (components || others) (Given 2 (ltb line_limit n) ∷ []) z in
    let even = neither components others uneven-not.0 in
    record {
      even = eqb-true n (length q.components) (not-false _ even.0);
      even-actions = eqb-true n (length actions) (not-false _ even.1);
      few = ltb-false line_limit n (first-none 1 (ltb line_limit n) [] uneven-not.1).0;
    }

-- ---- by the mask
module _ (q : RecordRequest) (actions : List ℕ) where
  abbrev by_mask : Bool → RecordOutcome
  by_mask none = cond (not none) (record_outcome (some q.multiplied) (new_actions q.multiplied q.components actions)) (record_outcome false actions)

  pub recorded-unmasked : q.mask ≡ 0 → record_outcome false actions ≡ recorded q actions
  recorded-unmasked z = sym (ap by_mask (eq-eqb q.mask 0 z))

  pub recorded-masked :
      (q.mask ≡ 0 → ⊥) → {any : Bool} {left : List ℕ} → any ≡ some q.multiplied → left ≡ new_actions q.multiplied q.components actions
      → record_outcome any left ≡ recorded q actions
  recorded-masked d e f = ap₂ record_outcome e f ∙ sym (ap by_mask (ne_eqb q.mask 0 d))
