-- `selectors::base_of` meets its contract: the place is the same from each selector that the walk back passes.
-- Assumes nothing.
use mathlib.Core.Path.{◌≡◌, sym, ap, ◌∙◌}
use Prim.Native.Nat.{◌+◌, ◌-◌}
use native.Mathlib.Omega.{arith}
use Rattle.selectors.specs.Selectors.{base}
use Rattle.selectors.proofs.SelectorLaws.{base-skips, base-here}
use Rattle.selectors.proofs.base_of.Goals as goal

pub loop-i-init : goal.loop-i-init
loop-i-init c =
    let e : c.args.k + 1 - 1 ≡ c.args.k = omega arith in
    rw e

pub returns-then-not-is_selector : goal.returns-then-not-is_selector
returns-then-not-is_selector c =
    let l = c.loop-i in
    sym (l.invariant ∙ base-here c.args.codes.now (l.i - 1) (omega (arith, c.loop-i-test.true)) (sym c.is_selector.ensures ∙ c.if-not-is_selector.true))

pub loop-i-preserved : goal.loop-i-preserved
loop-i-preserved c =
    let l = c.loop-i in
    l.invariant ∙ base-skips c.args.codes.now (l.i - 1) (omega (arith, c.loop-i-test.true)) (sym c.is_selector.ensures ∙ c.if-not-is_selector.false)

pub returns : goal.returns
returns c =
    let l = c.loop-i in
    let z : l.i - 1 ≡ 0 = omega (arith, c.loop-i-test.false) in
    sym (l.invariant ∙ ap (base c.args.codes.now) z)
