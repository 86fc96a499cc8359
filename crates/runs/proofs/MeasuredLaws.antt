-- A run, measured: its end is in the line, and it has no more tiles than records (`sums_fit`, `measured-fits`); what its sums and its word come to (`measured-is`); how much it adds at most (`run-adds-most`).
-- Assumes nothing.
use mathlib.Core.Path.{◌≡◌, sym, ap, ◌∙◌}
use mathlib.Core.Bool.{Bool, true, false, cond, ◌&&◌}
use mathlib.Core.List.{List}
use Prim.Native.Nat.{ℕ, zero, suc, ◌+◌, ◌-◌, ◌*◌, ◌/◌, ◌≤◌, ◌<◌}
use native.Mathlib.Omega.{arith}
use native.Mathlib.Nat.{div-le_self, le_trans, mul-le-mul_left, mul-le-mul_right}
use lib.ListN.{length, drop}
use lib.Seq.{drop-drop}
use lib.IntN.{ℤ, pos, negsuc, neg_ℤ}
use lib.Signed.{mag, lt_z, quot_z}
use mir.Syntax.{w32}
use mir.Val.{SFits, to_z, of_z}
use Rattle.laws.proofs.ListLaws.{front_fits, front-past, those-fewer}
use Rattle.letters.specs.Actions.{repeating}
use Rattle.fitting.specs.Saturating.{sat_sub_lem}
use Rattle.fitting.specs.Fit.{count, whole, added, copies, fit_of}
use Rattle.fitting.specs.declared.Fit.{Fit}
use Rattle.fitting.proofs.SignedLaws.{back, ret, sat_sub-fits}
use Rattle.runs.specs.Records.{Record, Columns}
use Rattle.runs.specs.Runs.{acts, is_tile, is_plain, plain, run, past_run, room, repeating_width, tiles, copies_of}
use Rattle.runs.specs.Stretched.{work}
use Rattle.runs.specs.Measured.{sums_of, word_sum, measured_of}
use Rattle.runs.specs.declared.Sums.{Sums}
use Rattle.runs.specs.declared.Measured.{Measured}
use Rattle.runs.proofs.RecordLaws.{length-work}

-- as many tiles as the run has records, at most
pub tiles-fewer : (l : List Record) → tiles l ≤ length (run l)
unfolding tiles
tiles-fewer l = those-fewer (acts repeating) (run l)

-- what lies past the run that begins at a place
pub past_is : (l : List Record) (from : ℕ) → drop (from + length (run (drop from l))) l ≡ past_run (drop from l)
past_is l from = sym (drop-drop (length (run (drop from l))) from l) ∙ front-past is_tile (drop from l)

module _ (rtl : Bool) (c : Columns) (from : ℕ) (h : from ≤ length c.actions) where
  pub run_fits : from + length (run (drop from (work rtl c))) ≤ length c.actions
  run_fits = omega (arith, front_fits is_tile (work rtl c) from (rw (length-work rtl c) h), length-work rtl c)

  pub plain_fits : from + length (plain (drop from (work rtl c))) ≤ length c.actions
  plain_fits = omega (arith, front_fits is_plain (work rtl c) from (rw (length-work rtl c) h), length-work rtl c)

  pub sums_fit : (r : Sums) → r ≡ sums_of from (drop from (work rtl c)) → (r.past ≤ length c.actions) × (r.tiles ≤ length c.actions)
  unfolding sums_of
  sums_fit r e = rw e (run_fits, omega (arith, run_fits, tiles-fewer (drop from (work rtl c))))

-- a run and its word, through locals
pub measured-is :
    (l : List Record) (from : ℕ) (r : Sums) (w s : ℤ) (f : Fit) → r ≡ sums_of from (drop from l) → w ≡ word_sum (drop r.past l)
    → SFits w32 r.fixed → SFits w32 r.repeating → SFits w32 w → SFits w32 f.overlap → SFits w32 f.start
    → s ≡ sat_sub_lem (to_z w32 (of_z w32 w)) (to_z w32 (of_z w32 r.fixed))
    → f ≡ fit_of (to_z w32 (of_z w32 s)) (to_z w32 (of_z w32 r.repeating)) r.tiles
    → ◌≡◌ {A = Measured} record { past = r.past; tiles = r.tiles; copies = f.copies; overlap = to_z w32 (of_z w32 f.overlap); start = to_z w32 (of_z w32 f.start) } (measured_of from (drop from l))
unfolding measured_of sums_of word_sum room repeating_width fit_of
measured-is l from r w s f er ew fixed-fits repeating-fits word_fits overlap-fits start_fits es ef =
    let word_of : w ≡ word_sum (past_run (drop from l)) = ew ∙ ap (λ (q : Sums). word_sum (drop q.past l)) er ∙ ap word_sum (past_is l from) in
    let room-is : s ≡ room (drop from l) = (rw (back word_fits, back fixed-fits) at es) ∙ rw (word_of, er) in
    let stored = ret (sat_sub-fits _ _) room-is in
    let fit_is : f ≡ fit_of (room (drop from l)) (repeating_width (drop from l)) (tiles (drop from l)) = (rw (stored, back repeating-fits) at ef) ∙ rw er in
    rw (back overlap-fits, back start_fits, er, fit_is)

-- ---- how many copies
negative : (a n : ℕ) → count (neg_ℤ (pos n)) ≤ a + 1
unfolding count
negative a zero = omega arith
negative a (suc n) = omega arith

quot_most : (z w : ℤ) → count (quot_z z w) ≤ mag z + 1
unfolding count
quot_most (pos a) (pos b) = omega (arith, div-le_self a b)
quot_most (pos a) (negsuc b) = negative a (a / suc b)
quot_most (negsuc a) (pos b) = negative a (suc a / b)
quot_most (negsuc a) (negsuc b) = omega (arith, div-le_self (suc a) (suc b))

copies-most : (z w : ℤ) (t : ℕ) → SFits w32 z → copies z w t ≤ 2147483648
unfolding copies whole
copies-most z w t f = by (added z w t) (lt_z w z && lt_z (pos 0) w)
  where
    by : (b d : Bool) → cond b (cond d (count (quot_z z w) - 1) 0 + 1) (cond d (count (quot_z z w) - 1) 0) ≤ 2147483648
    by b d =
        let most = quot_most z w in
        let fits : mag z < 2147483648 = f.sfits in
        let whole-most : cond d (count (quot_z z w) - 1) 0 ≤ 2147483647 = at d (omega arith) in
        one b whole-most
      where
        at : (d : Bool) → count (quot_z z w) - 1 ≤ 2147483647 → cond d (count (quot_z z w) - 1) 0 ≤ 2147483647
        at true h = h
        at false h = omega arith

        one : (b : Bool) → cond d (count (quot_z z w) - 1) 0 ≤ 2147483647 → cond b (cond d (count (quot_z z w) - 1) 0 + 1) (cond d (count (quot_z z w) - 1) 0) ≤ 2147483648
        one true h = omega arith
        one false h = omega arith

-- what a run adds, by the number of its records
pub run-adds-most : (l : List Record) → copies_of l * tiles l ≤ 2147483648 * length (run l)
unfolding room
run-adds-most l =
    le_trans (mul-le-mul_right (tiles l) (copies-most (room l) (repeating_width l) (tiles l) (sat_sub-fits _ _))) (mul-le-mul_left 2147483648 (tiles-fewer l))
