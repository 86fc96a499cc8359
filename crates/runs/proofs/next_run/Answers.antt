-- `runs::next_run` meets its contract: the records before the run are those passed, and those before it from here on.
-- Assumes nothing.
use mathlib.Core.Path.{◌≡◌, sym, ◌∙◌}
use native.Mathlib.Omega.{arith}
use lib.ListN.{length}
use Rattle.refusals.proofs.ColumnLaws.{at_most-at}
use Rattle.letters.specs.Actions.{repeating}
use Rattle.runs.proofs.RecordLaws.{spot-below}
use Rattle.runs.proofs.RunLaws.{tile-above, tile-below}
use Rattle.runs.proofs.TurnLaws.{plain_turn, plain-stops, plain_over}
use Rattle.runs.proofs.next_run.Goals as goal

pub bounds-actions-part : goal.bounds-actions-part
bounds-actions-part c =
    rw c.part.ensures (spot-below _ _ c.loop-k.k c.loop-k-test.true)

pub returns-then-actions-part : goal.returns-then-actions-part
returns-then-actions-part c =
    λ l e.
    let a = c.args in
    let i = c.part.result in
    sym (c.loop-k.invariant l e ∙ plain-stops a.rtl l a.actions.now e c.loop-k.k i c.loop-k-test.true c.part.ensures (tile-above _ c.if-actions-part.true (at_most-at repeating a.actions.now c.requires.actions_value i)))

pub loop-k-preserved : goal.loop-k-preserved
loop-k-preserved c =
    let a = c.args in
    let i = c.part.result in
    λ l e. c.loop-k.invariant l e ∙ plain_turn a.rtl l a.actions.now e c.loop-k.k i c.loop-k-test.true c.part.ensures (tile-below _ c.if-actions-part.false)

pub returns : goal.returns
returns c = λ l e.
    let a = c.args in
    let n : length a.actions.now ≡ c.loop-k.k = omega (arith, c.loop-k-test.false, c.loop-k.auto.k-end, c.requires.from_in_bounds) in
    n ∙ sym (c.loop-k.invariant l e ∙ plain_over a.rtl l a.actions.now e c.loop-k.k c.loop-k-test.false)
