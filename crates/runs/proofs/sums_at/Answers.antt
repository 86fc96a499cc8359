-- `runs::sums_at` meets its contract: the run's sums are those so far, and what the tiles from here on add to them.
-- Assumes nothing.
use mathlib.Core.Path.{◌≡◌}
use native.Mathlib.Omega.{arith}
use lib.ListN.{length}
use mir.Syntax.{w32}
use mir.Val.{to_z}
use Rattle.runs.proofs.RecordLaws.{spot-below}
use Rattle.runs.proofs.RunLaws.{summing_starts}
use Rattle.runs.proofs.TurnLaws.{summed, fixed_turn, repeating_turn, run-stops, run-over}
use Rattle.runs.proofs.sums_at.Goals as goal
use Rattle.runs.proofs.sums_at.Goals.{then-action, else-action+then-action-2}

pub loop-k-init : goal.loop-k-init
loop-k-init c = (omega arith, λ l w e. summing_starts _ _)

pub bounds-line-i : goal.bounds-line-i
bounds-line-i c = rw c.part-i.ensures (spot-below _ _ _ c.loop-k-test.true)

pub loop-k-preserved : goal.loop-k-preserved
loop-k-preserved c =
    let a = c.args in
    let s = c.loop-k in
    let i = c.part-i.result in
    elim c.if-action.branch [
      | then-action w ↦
          (let e = summed s.fixed-bits _ _ _ w.at.type_inv w.at.ensures w.sat_add-fixed.ensures in
          rw (w.fixed-is, w.repeating-is, w.tiles-is)
          (omega (arith, s.invariant.0), λ l v e'. rw e (fixed_turn a.rtl l a.line.actions.now e' s.k i c.loop-k-test.true c.part-i.ensures a.from a.line.widths.now v (to_z w32 s.fixed-bits) (to_z w32 s.repeating-bits) s.tiles (s.invariant.1 l v e') w.if-action.true)))
      | else-action+then-action-2 w ↦
          (let e = summed s.repeating-bits _ _ _ w.at-then-action-2.type_inv w.at-then-action-2.ensures w.sat_add-repeating.ensures in
          rw (w.fixed-is, w.repeating-is, w.tiles-is)
          (omega (arith, s.invariant.0), λ l v e'. rw e (repeating_turn a.rtl l a.line.actions.now e' s.k i c.loop-k-test.true c.part-i.ensures a.from a.line.widths.now v (to_z w32 s.fixed-bits) (to_z w32 s.repeating-bits) s.tiles (s.invariant.1 l v e') w.if-action-2.true)))
    ]

pub returns-else-action-2 : goal.returns-else-action-2
returns-else-action-2 c =
    λ l w e.
    let a = c.args in
    run-stops a.rtl l a.line.actions.now e c.loop-k.k c.part-i.result c.loop-k-test.true c.part-i.ensures a.from a.line.widths.now w (to_z w32 c.loop-k.fixed-bits) (to_z w32 c.loop-k.repeating-bits) c.loop-k.tiles (c.loop-k.invariant.1 l w e) c.if-action.false c.if-action-2.false

pub returns : goal.returns
returns c = λ l w e.
    let a = c.args in
    let n : length a.line.actions.now ≡ c.loop-k.k = omega (arith, c.loop-k-test.false, c.loop-k.auto.k-end, c.requires.from_in_bounds) in
    rw n (run-over a.rtl l a.line.actions.now e c.loop-k.k c.loop-k-test.false a.from (to_z w32 c.loop-k.fixed-bits) (to_z w32 c.loop-k.repeating-bits) c.loop-k.tiles (c.loop-k.invariant.1 l w e))
