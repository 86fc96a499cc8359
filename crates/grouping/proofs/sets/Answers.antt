-- `grouping::sets` meets its contract.
-- Assumes nothing.
use native.Mathlib.Omega.{arith}
use mathlib.Core.Path.{◌≡◌, sym, ◌∙◌}
use Prim.Native.Nat.{◌+◌, ◌-◌, ◌*◌, ◌<◌}
use Rattle.words.specs.Words.{words_at}
use Rattle.accepting.proofs.TookLaws.{handed}
use Rattle.grouping.specs.Grouped.{may_have_lem}
use Rattle.grouping.proofs.GoingLaws.{Going, going_short, going_wrong, going_stops, going_next, going_ends}
use Rattle.grouping.proofs.sets.Goals as goal
use Rattle.grouping.proofs.sets.Goals.{In-loop-i, After-may_have}

some : (s : In-loop-i) → 0 < s.args.s - s.loop-i.i
some s = omega (arith, s.loop-i-test.true)

-- what the test of the count says
tested : (s : After-may_have) → s.may_have.result ≡ may_have_lem s.args.n s.loop-i.o (words_at s.args.bytes.now (16 + 2 * s.loop-i.i) (s.args.s - s.loop-i.i - 1)) s.from-c.result
tested s =
    let less : s.args.s - 1 - s.loop-i.i ≡ s.args.s - s.loop-i.i - 1 = omega arith in
    rw less at s.may_have.ensures

pub returns-then-bytes-p-lt2 : goal.returns-then-bytes-p-lt2
returns-then-bytes-p-lt2 c =
    let a = c.args in
    let l = c.loop-i in
    going_short a.n a.s a.bytes.now (a.s - l.i) l.o (16 + 2 * l.i) l.p l.invariant (some (goal.at.returns-then-bytes-p-lt2 c).In-loop-i) (omega (arith, l.invariant.within, c.if-bytes-p-lt2.true))

pub returns-in_err-p : goal.returns-in_err-p
returns-in_err-p c =
    let a = c.args in
    let l = c.loop-i in
    let at = goal.at.returns-in_err-p c in
    rw (handed c.from_residual.ensures)
    (going_stops a.n a.s a.bytes.now (a.s - l.i) l.o (16 + 2 * l.i) l.p l.invariant (some at.In-loop-i)
    c.from-c.result (c.from-c.ensures ∙ c.u16_at.ensures) (omega (arith, l.invariant.within, c.if-bytes-p-lt2.false)) (sym (tested at.After-may_have) ∙ c.if-may_have.true) _ c.in_err-p.ensures)

pub loop-i-preserved : goal.loop-i-preserved
loop-i-preserved c =
    let a = c.args in
    let l = c.loop-i in
    let at = goal.at.loop-i-preserved c in
    let less : a.s - l.i - 1 ≡ a.s - (l.i + 1) = omega arith in
    let on : 16 + 2 * l.i + 2 ≡ 16 + 2 * (l.i + 1) = omega arith in
    let next : Going a.n a.s a.bytes.now (a.s - l.i - 1) (l.o + (2 + c.from-c.result * (4 + 2 * a.n))) (16 + 2 * l.i + 2) c.in_ok-p.p =
    going_next a.n a.s a.bytes.now (a.s - l.i) l.o (16 + 2 * l.i) l.p l.invariant (some at.In-loop-i)
    c.from-c.result (c.from-c.ensures ∙ c.u16_at.ensures) (omega (arith, l.invariant.within, c.if-bytes-p-lt2.false)) (sym (tested at.After-may_have) ∙ c.if-may_have.true) c.requires.1 (omega (arith, c.from-c.ensures, c.u16_at.type_inv)) c.in_ok-p.p c.in_ok-p.ensures
    in
    rw (less, on) at next

pub returns-else-may_have : goal.returns-else-may_have
returns-else-may_have c =
    let a = c.args in
    let l = c.loop-i in
    let at = goal.at.returns-else-may_have c in
    going_wrong a.n a.s a.bytes.now (a.s - l.i) l.o (16 + 2 * l.i) l.p l.invariant (some at.In-loop-i)
    c.from-c.result (c.from-c.ensures ∙ c.u16_at.ensures) (omega (arith, l.invariant.within, c.if-bytes-p-lt2.false)) (sym (tested at.After-may_have) ∙ c.if-may_have.false)

pub returns : goal.returns
returns c =
    let a = c.args in
    let l = c.loop-i in
    going_ends a.n a.s a.bytes.now (a.s - l.i) l.o (16 + 2 * l.i) l.p l.invariant (omega (arith, c.loop-i-test.false))
