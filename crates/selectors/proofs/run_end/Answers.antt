-- `selectors::run_end` meets its contract: the run's end is that of what is left of it.
-- Assumes nothing.
use mathlib.Core.Path.{◌≡◌, sym, ◌∙◌}
use native.Mathlib.Omega.{arith}
use lib.ListN.{length}
use Rattle.selectors.proofs.WalkLaws.{run-goes, run-stops, run_ends}
use Rattle.selectors.proofs.run_end.Goals as goal

pub returns-then-not-is_selector : goal.returns-then-not-is_selector
returns-then-not-is_selector c =
    let l = c.loop-i in
    let cs = c.args.codes.now in
    sym (l.invariant ∙ run-stops cs l.i c.loop-i-test.true (sym c.is_selector.ensures ∙ c.if-not-is_selector.true))

pub loop-i-preserved : goal.loop-i-preserved
loop-i-preserved c =
    let l = c.loop-i in
    let cs = c.args.codes.now in
    l.invariant ∙ run-goes cs l.i c.loop-i-test.true (sym c.is_selector.ensures ∙ c.if-not-is_selector.false)

pub returns : goal.returns
returns c =
    let l = c.loop-i in
    let e : l.i ≡ length c.args.codes.now = omega (arith, l.auto.i-end c.requires, c.loop-i-test.false) in
    sym (l.invariant ∙ run_ends c.args.codes.now l.i c.loop-i-test.false ∙ e)
