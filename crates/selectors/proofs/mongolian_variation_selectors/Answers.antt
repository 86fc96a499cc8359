-- `selectors::mongolian_variation_selectors` meets its contract: what is settled up to a record, and the rest settled from it on.
-- Assumes nothing.
use mathlib.Core.Path.{◌≡◌, sym, ◌∙◌}
use Prim.Native.Nat.{◌-◌, ◌+◌}
use native.Mathlib.Omega.{arith}
use Rattle.selectors.proofs.SelectorLaws.{settled-takes, settled_keeps, settled-ends}
use Rattle.selectors.proofs.mongolian_variation_selectors.Goals as goal

pub loop-i-preserved-then-not-is_selector : goal.loop-i-preserved-then-not-is_selector
loop-i-preserved-then-not-is_selector c =
    let l = c.loop-i in
    let here : l.i - 1 + 1 ≡ l.i = omega (arith, l.auto.i) in
    let next : l.i + 1 - 1 ≡ l.i = omega arith in
    let none = sym c.is_selector.ensures ∙ c.if-not-is_selector.true in
    let turn = settled_keeps c.args.codes.now l.actions (l.i - 1) (c.requires ∙ sym l.auto.actions) in
    let turn_here = simp here at turn in
    rw next (l.invariant ∙ turn_here none c.loop-i-test.true)

pub loop-i-preserved : goal.loop-i-preserved
loop-i-preserved c =
    let l = c.loop-i in
    let here : l.i - 1 + 1 ≡ l.i = omega (arith, l.auto.i) in
    let next : l.i + 1 - 1 ≡ l.i = omega arith in
    let one = sym c.is_selector.ensures ∙ c.if-not-is_selector.false in
    let turn = settled-takes c.args.codes.now l.actions (l.i - 1) (c.requires ∙ sym l.auto.actions) in
    let turn_here = simp here at turn in
    rw next (l.invariant ∙ turn_here one c.loop-i-test.true)

pub returns : goal.returns
returns c =
    let l = c.loop-i in
    sym (l.invariant ∙ settled-ends c.args.codes.now l.actions (l.i - 1) (c.requires ∙ sym l.auto.actions) (omega (arith, l.auto.i, c.loop-i-test.false)))
