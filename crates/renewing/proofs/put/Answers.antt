-- `renewing::put` meets its contract: what is renewed up to a record.
-- Assumes nothing.
use mathlib.Core.Path.{◌≡◌, refl, sym}
use native.Mathlib.Omega.{arith}
use Rattle.renewing.proofs.RenewLaws.{span_begins, span-next, span-ends}
use Rattle.renewing.proofs.put.Goals as goal

pub loop-i-init : goal.loop-i-init
loop-i-init c =
    let a = c.args in
    (sym (span_begins a.k _ a.actions.now), sym (span_begins a.k _ a.masks.now))

pub loop-i-preserved : goal.loop-i-preserved
loop-i-preserved c =
    let l = c.loop-i in
    let a = c.args in (
      span-next a.k _ a.actions.now l.i _ l.actions l.auto.i (omega (arith, c.loop-i-test.true, c.requires.in_bounds.1, c.requires.actions_len.0)) refl l.invariant.0,
      span-next a.k _ a.masks.now l.i _ l.masks l.auto.i (omega (arith, c.loop-i-test.true, c.requires.in_bounds.1, c.requires.actions_len.1)) c.mask_of.ensures l.invariant.1,
    )

pub returns : goal.returns
returns c =
    let l = c.loop-i in
    let a = c.args in
    let e : l.i ≡ a.end = omega (arith, l.auto.i-end c.requires.in_bounds.0, c.loop-i-test.false) in
    record { actions = span-ends a.k _ a.actions.now l.i a.end _ e l.invariant.0; masks = span-ends a.k _ a.masks.now l.i a.end _ e l.invariant.1 }
