-- The loop that counts the records of the stretched line: what it carries (`Counting`), and a turn over a run and the plain records behind it (`counting_starts`, `counting_turn`, `counting_ends`); that its numbers fit (`turned`).
-- Assumes nothing.
use mathlib.Core.Path.{◌≡◌, sym, ap, ◌∙◌}
use mathlib.Core.Bool.{Bool, false}
use mathlib.Core.List.{List}
use Prim.Native.Nat.{ℕ, ◌+◌, ◌*◌, ◌≤◌, ◌<◌}
use native.Mathlib.Omega.{arith}
use lib.ListN.{length, drop, length-drop, drop_of_length-le}
use lib.Seq.{drop-drop}
use Rattle.laws.specs.Lists.{behind}
use Rattle.laws.proofs.ListLaws.{front-past}
use Rattle.runs.specs.Records.{Record, Columns}
use Rattle.runs.specs.Runs.{is_plain, plain, run, past_run, tiles, copies_of}
use Rattle.runs.specs.Stretched.{work, worked, records_added}
use Rattle.runs.specs.Measured.{measured_of}
use Rattle.runs.specs.declared.Measured.{Measured}
use Rattle.runs.proofs.RecordLaws.{length-work}
use Rattle.runs.proofs.StretchedLaws.{AtRun, at-run, run-some, added-skips, added-at-run, length-worked}
use Rattle.runs.proofs.MeasuredLaws.{past_is, run_fits, run-adds-most}

-- at k of the records l a run begins, or nothing is left; with what was added up to there, there are n
pub record Counting (l : List Record) (k n : ℕ) : Type 0 where
  pub here : AtRun (drop k l)
  pub all : length l + records_added false l ≡ n + records_added false (drop k l)

-- past the plain records from a place on
pub next-is : (l : List Record) (from : ℕ) → drop (from + length (plain (drop from l))) l ≡ behind is_plain (drop from l)
next-is l from = sym (drop-drop (length (plain (drop from l))) from l) ∙ front-past is_plain (drop from l)

module _ (l : List Record) where
  pub counting_starts : (k : ℕ) → k ≡ length (plain l) → Counting l k (length l)
  counting_starts k e =
      let there : drop k l ≡ behind is_plain l = ap (λ (j : ℕ). drop j l) e ∙ front-past is_plain l in
      record { here = rw there (at-run l); all = omega (arith, added-skips l, ap (records_added false) there) }

  module _ (k n past : ℕ) (s : Counting l k n) (p : past ≡ k + length (run (drop k l))) where
    -- a run is at least one record long
    pub past-above : k < length l → k < past
    past-above h = omega (arith, p, run-some (drop k l) s.here (omega (arith, length-drop k l)))

    pub counting_turn : (j : ℕ) → j ≡ past + length (plain (drop past l)) → Counting l j (n + copies_of (drop k l) * tiles (drop k l))
    counting_turn j e =
        let there : drop j l ≡ behind is_plain (drop past l) = ap (λ (i : ℕ). drop i l) e ∙ next-is l past in
        let behind-run : drop past l ≡ past_run (drop k l) = ap (λ (i : ℕ). drop i l) p ∙ past_is l k in
        let rest : records_added false (past_run (drop k l)) ≡ records_added false (drop j l) = ap (records_added false) (sym behind-run) ∙ added-skips (drop past l) ∙ ap (records_added false) (sym there) in
        record { here = rw there (at-run (drop past l)); all = omega (arith, s.all, added-at-run (drop k l) s.here, rest) }

  pub counting_ends : (rtl : Bool) (k n : ℕ) → length l ≤ k → Counting l k n → n ≡ length (worked rtl false l)
  unfolding records_added
  counting_ends rtl k n h s = omega (arith, s.all, ap (records_added false) (drop_of_length-le l {i = k} h), length-worked rtl false l)

-- ---- what the run at k comes to: it ends behind k, within the line, and adds no more than so many for each of its records
pub record Turned (n k : ℕ) (r : Measured) : Type 0 where
  pub above : k < r.past
  pub fits : r.past ≤ n
  pub adds : r.copies * r.tiles + 2147483648 * k ≤ 2147483648 * r.past

pub turned :
    (rtl : Bool) (c : Columns) (k n : ℕ) (r : Measured) → k < length c.actions → Counting (work rtl c) k n
    → r ≡ measured_of k (drop k (work rtl c)) → Turned (length c.actions) k r
unfolding measured_of
turned rtl c k n r h s e =
    let l = work rtl c in
    let past : r.past ≡ k + length (run (drop k l)) = ap (λ (q : Measured). q.past) e in
    let most = run-adds-most (drop k l) in
    record {
      above = past-above l k n r.past s past (omega (arith, length-work rtl c));
      fits = omega (arith, past, run_fits rtl c k (omega arith));
      adds = rw e (omega (arith, most));
    }

-- a turn, by what measuring answers
pub counting_run :
    (l : List Record) (k n : ℕ) (r : Measured) → Counting l k n → r ≡ measured_of k (drop k l)
    → (j : ℕ) → j ≡ r.past + length (plain (drop r.past l)) → Counting l j (n + r.copies * r.tiles)
unfolding measured_of
counting_run l k n r s e j h =
    rw (ap (λ (q : Measured). q.copies) e, ap (λ (q : Measured). q.tiles) e) (counting_turn l k n r.past s (ap (λ (q : Measured). q.past) e) j h)
