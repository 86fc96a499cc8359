-- The whole work: the pieces of a run are those of its part of the line (`pieces-of-run`); `Writing` what the loop carries, and what a turn over the records before a run and over the run makes of it (`writing-starts`, `writing-next`, `writing-ends`),
-- with what its calls ask for (`next_fits`, `kept-fits`, `room-kept`, `past_fits`, `past-above`, `run-has-room`).
-- Assumes nothing.
use mathlib.Core.Path.{◌≡◌, refl, sym, ap, ap₂, ◌∙◌}
use mathlib.Core.Bool.{Bool, false}
use mathlib.Core.List.{List, [], ◌++◌}
use Prim.Native.Nat.{ℕ, zero, suc, ◌+◌, ◌-◌, ◌≤◌, ◌<◌}
use native.Mathlib.Omega.{arith}
use lib.ListN.{length, take, drop, length-append, length-drop, drop_of_length-le}
use lib.Seq.{slice, take_at}
use Rattle.laws.specs.Lists.{behind}
use Rattle.laws.proofs.ListLaws.{front-behind}
use Rattle.laws.proofs.PartLaws.{slice_mid}
use Rattle.runs.specs.declared.Measured.{Measured}
use Rattle.runs.specs.Records.{Record, Columns}
use Rattle.runs.specs.Runs.{is_tile, is_plain, plain, run, past_run}
use Rattle.runs.specs.Stretched.{work, run_pieces, placed, placed_run, worked}
use Rattle.runs.specs.Measured.{measured_of}
use Rattle.runs.proofs.RecordLaws.{length-work}
use Rattle.runs.proofs.MeasuredLaws.{past_is, run_fits, plain_fits}
use Rattle.runs.proofs.CountLaws.{next-is}
use Rattle.runs.proofs.StretchedLaws.{AtRun, at-run, run-some, worked-skips, worked-at-run, length-placed}
use Rattle.copying.specs.Pasted.{Roomy}
use Rattle.laying.specs.Laid.{laid}
use Rattle.placing.specs.Placed.{pieces_from}
use Rattle.copying.proofs.ColumnsLaws.{SameLengths, same-lengths, lengths-then, roomy-same}
use Rattle.laying.proofs.LaidLaws.{laid_none, laid_then, lengths-laid}

-- ---- the pieces of a run
-- the run of a list, as a part of it
run-part : (l : List Record) (k past : ℕ) → past ≡ k + length (run (drop k l)) → slice k past l ≡ run (drop k l)
run-part l k past e =
    let n : past - k ≡ length (run (drop k l)) = omega arith in
    sym (slice_mid k past l) ∙ ap (λ (j : ℕ). take j (drop k l)) n
    ∙ ap (take (length (run (drop k l)))) (sym (front-behind is_tile (drop k l))) ∙ take_at (run (drop k l)) (past_run (drop k l)) (length (run (drop k l))) refl

module _ (rtl : Bool) (c : Columns) where
  pub pieces-of-run :
      (k : ℕ) (r : Measured) → r ≡ measured_of k (drop k (work rtl c))
      → placed rtl r.start (pieces_from rtl k r c) ≡ placed_run rtl (drop k (work rtl c))
  unfolding pieces_from placed_run measured_of
  pieces-of-run k r e =
      let L = work rtl c in
      let past : r.past ≡ k + length (run (drop k L)) = ap (λ (q : Measured). q.past) e in
      ap (λ (l : List Record). placed rtl r.start (run_pieces r.copies r.overlap l)) (run-part L k r.past past)
      ∙ ap (λ (q : Measured). placed rtl q.start (run_pieces q.copies q.overlap (run (drop k L)))) e

-- ---- the loop
-- the records from the k-th on are still to be worked on, from the place `at` on; what they become makes all columns what they are to be, and fills the m places
pub record Writing (rtl : Bool) (m : ℕ) (c start goal : Columns) (k at : ℕ) (b : Columns) : Type 0 where
  pub fits : k ≤ length c.actions
  pub same : SameLengths start b
  pub whole : goal ≡ laid rtl m at (worked rtl false (drop k (work rtl c))) b
  pub ahead : m ≡ at + length (worked rtl false (drop k (work rtl c)))

module _ (rtl : Bool) (m : ℕ) (c start : Columns) where
  pub writing-starts : m ≡ length (worked rtl false (work rtl c)) → Writing rtl m c start (laid rtl m 0 (worked rtl false (work rtl c)) start) 0 0 start
  writing-starts e = record { fits = omega arith; same = same-lengths start; whole = refl; ahead = omega arith }

  module _ (goal : Columns) (k at : ℕ) (b : Columns) (w : Writing rtl m c start goal k at b) (next : ℕ) (en : next ≡ k + length (plain (drop k (work rtl c)))) where
    -- the records before the run
    before : take (next - k) (drop k (work rtl c)) ≡ plain (drop k (work rtl c))
    before =
        let n : next - k ≡ length (plain (drop k (work rtl c))) = omega arith in
        ap (λ (j : ℕ). take j (drop k (work rtl c))) n
        ∙ ap (take (length (plain (drop k (work rtl c))))) (sym (front-behind is_plain (drop k (work rtl c)))) ∙ take_at (plain (drop k (work rtl c))) (behind is_plain (drop k (work rtl c))) (length (plain (drop k (work rtl c)))) refl

    pub next_fits : next ≤ length c.actions
    next_fits = rw en (plain_fits rtl c k w.fits)

    before-long : length (take (next - k) (drop k (work rtl c))) ≡ next - k
    before-long = ap length before ∙ omega arith

    -- they have room
    pub kept-fits : (k + (next - k) ≤ length c.actions) × (at + (next - k) ≤ m)
    kept-fits =
        let all = ap length (worked-skips rtl (drop k (work rtl c))) ∙ length-append (plain (drop k (work rtl c))) (worked rtl false (behind is_plain (drop k (work rtl c)))) in
        (omega (arith, next_fits), omega (arith, w.ahead, all))

    -- and once they are laid, the columns have the room that they had
    pub kept_same : Roomy m start → (d : Columns) → d ≡ laid rtl m at (take (next - k) (drop k (work rtl c))) b → SameLengths b d
    kept_same room d ed = rw ed (lengths-laid rtl m at (take (next - k) (drop k (work rtl c))) b (roomy-same w.same room) (omega (arith, kept-fits.1, before-long)))

    pub room-kept : Roomy m start → (d : Columns) → d ≡ laid rtl m at (take (next - k) (drop k (work rtl c))) b → Roomy m d
    room-kept room d ed = roomy-same (kept_same room d ed) (roomy-same w.same room)

    -- a run begins there, or the line ends
    run-there : AtRun (drop next (work rtl c))
    run-there = rw (en, next-is (work rtl c) k) (at-run (drop k (work rtl c)))

    module _ (r : Measured) (er : r ≡ measured_of next (drop next (work rtl c))) where
      past-at : r.past ≡ next + length (run (drop next (work rtl c)))
      unfolding measured_of
      past-at = ap (λ (q : Measured). q.past) er

      pub past_fits : (next ≤ r.past) × (r.past ≤ length c.actions)
      past_fits = (omega (arith, past-at), omega (arith, past-at, run_fits rtl c next next_fits))

      -- the work gets on
      pub past-above : k < length c.actions → k < r.past
      past-above h = above (length (plain (drop k (work rtl c)))) refl
        where
          above : (n : ℕ) → length (plain (drop k (work rtl c))) ≡ n → k < r.past
          above (suc n) e = omega (arith, past-at)
          above zero e =
              let here : next ≡ k = omega arith in
              omega (arith, past-at, run-some (drop next (work rtl c)) run-there (omega (arith, length-drop next (work rtl c), length-work rtl c)))

      parts : worked rtl false (drop k (work rtl c)) ≡ take (next - k) (drop k (work rtl c)) ++ (placed_run rtl (drop next (work rtl c)) ++ worked rtl false (drop r.past (work rtl c)))
      parts =
          let there : behind is_plain (drop k (work rtl c)) ≡ drop next (work rtl c) = sym (ap (λ (j : ℕ). drop j (work rtl c)) en ∙ next-is (work rtl c) k) in
          let past : past_run (drop next (work rtl c)) ≡ drop r.past (work rtl c) = sym (ap (λ (j : ℕ). drop j (work rtl c)) past-at ∙ past_is (work rtl c) next) in
          worked-skips rtl (drop k (work rtl c))
          ∙ ap₂ (λ (x y : List Record). x ++ worked rtl false y) (sym before) there
          ∙ ap (λ (y : List Record). take (next - k) (drop k (work rtl c)) ++ y) (worked-at-run rtl (drop next (work rtl c)) run-there ∙ ap (λ (y : List Record). placed_run rtl (drop next (work rtl c)) ++ worked rtl false y) past)

      long : m ≡ at + ((next - k) + (length (placed_run rtl (drop next (work rtl c))) + length (worked rtl false (drop r.past (work rtl c)))))
      long =
          let all = ap length parts in
          omega (arith, w.ahead, all, before-long, length-append (take (next - k) (drop k (work rtl c))) (placed_run rtl (drop next (work rtl c)) ++ worked rtl false (drop r.past (work rtl c))), length-append (placed_run rtl (drop next (work rtl c))) (worked rtl false (drop r.past (work rtl c))))

      -- the run has room
      pub run-has-room : at + (next - k) + length (pieces_from rtl next r c) ≤ m
      run-has-room =
          omega (arith, long, sym (length-placed rtl r.start (pieces_from rtl next r c)) ∙ ap length (pieces-of-run rtl c next r er))

      pub writing-next :
          Roomy m start → (d e : Columns) → d ≡ laid rtl m at (take (next - k) (drop k (work rtl c))) b
          → e ≡ laid rtl m (at + (next - k)) (placed rtl r.start (pieces_from rtl next r c)) d
          → (there : ℕ) → there ≡ at + (next - k) + length (pieces_from rtl next r c)
          → Writing rtl m c start goal r.past there e
      writing-next room d e ed ee there et =
          let here = roomy-same w.same room in
          let kept-part = take (next - k) (drop k (work rtl c)) in
          let tiles = placed_run rtl (drop next (work rtl c)) in
          let rest = worked rtl false (drop r.past (work rtl c)) in
          let placed-is = pieces-of-run rtl c next r er in
          let tiles-long : length (pieces_from rtl next r c) ≡ length tiles = sym (length-placed rtl r.start _) ∙ ap length placed-is in
          let there-is : there ≡ at + (next - k) + length tiles = et ∙ ap (λ (j : ℕ). at + (next - k) + j) tiles-long in
          let e-is : e ≡ laid rtl m (at + (next - k)) tiles d = ee ∙ ap (λ (l : List Record). laid rtl m (at + (next - k)) l d) placed-is in
          let same-d : SameLengths b d = kept_same room d ed in
          let room-d : Roomy m d = room-kept room d ed in
          let same-e : SameLengths d e = rw e-is (lengths-laid rtl m (at + (next - k)) tiles d room-d (omega (arith, long))) in
          record {
            fits = past_fits.1;
            same = lengths-then w.same (lengths-then same-d same-e);
            whole = w.whole
                ∙ ap (λ (l : List Record). laid rtl m at l b) parts
                ∙ laid_then rtl m b here at (at + (next - k)) kept-part (tiles ++ rest) (omega (arith, before-long)) (omega (arith, long, length-append tiles rest))
                ∙ ap (laid rtl m (at + (next - k)) (tiles ++ rest)) (sym ed)
                ∙ laid_then rtl m d room-d (at + (next - k)) there tiles rest there-is (omega (arith, long, there-is))
                ∙ ap (laid rtl m there rest) (sym e-is);
            ahead = omega (arith, long, there-is);
          }

  pub writing-ends : (goal : Columns) (k at : ℕ) (b : Columns) → Writing rtl m c start goal k at b → length c.actions ≤ k → b ≡ goal
  unfolding worked
  writing-ends goal k at b w h =
      let none : drop k (work rtl c) ≡ [] = drop_of_length-le (work rtl c) {i = k} (rw (length-work rtl c) h) in
      sym (w.whole ∙ rw none (laid_none rtl m b at))
