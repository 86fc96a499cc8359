-- `accepting::exactly` meets its contract: what the words still to come are answered is the answer for all.
-- Assumes nothing.
use native.Mathlib.Omega.{arith}
use mathlib.Core.Path.{sym, ◌∙◌}
use Prim.Native.Nat.{◌+◌, ◌≤◌}
use lib.ListN.{length, drop_of_length-le}
use Rattle.laws.proofs.LoopLaws.{drop-next}
use Rattle.std.specs.Prelude.{Ok, Err}
use Rattle.accepting.specs.declared.Fault.TheVariants.{Wrong, Short}
use Rattle.accepting.proofs.PieceLaws.{these-short, these-wrong, these-more, these-none}
use Rattle.accepting.proofs.exactly.Goals as goal

pub loop-w-init : goal.loop-w-init
loop-w-init c = (c.requires, omega arith, λ r t. t)

pub overflow_sub-bytes : goal.overflow_sub-bytes
overflow_sub-bytes c = omega (arith, c.loop-w.invariant.0)

pub returns-then-bytes-p-lt2 : goal.returns-then-bytes-p-lt2
returns-then-bytes-p-lt2 c =
    let a = c.args in
    c.loop-w.invariant.2 (Err Short) (rw (drop-next a.words.now c.loop-w.w-index 0 c.loop-w-test.true) (these-short _ _ a.bytes.now c.loop-w.p (omega (arith, c.loop-w.invariant.0, c.if-bytes-p-lt2.true))))

pub u16_at-requires : goal.u16_at-requires
u16_at-requires c = omega (arith, c.loop-w.invariant.0, c.if-bytes-p-lt2.false)

pub returns-then-u16_at-w : goal.returns-then-u16_at-w
returns-then-u16_at-w c =
    let a = c.args in
    c.loop-w.invariant.2 (Err (Wrong c.loop-w.p)) (rw (drop-next a.words.now c.loop-w.w-index 0 c.loop-w-test.true) (these-wrong _ _ a.bytes.now c.loop-w.p (omega (arith, c.loop-w.invariant.0, c.if-bytes-p-lt2.false)) (λ q. c.if-u16_at-w.true (c.u16_at.ensures ∙ q))))

pub overflow_add-p : goal.overflow_add-p
overflow_add-p c =
    omega (arith, c.loop-w.invariant.0, c.if-bytes-p-lt2.false)

pub loop-w-preserved : goal.loop-w-preserved
loop-w-preserved c =
    let a = c.args in
    let fits : c.loop-w.p + 2 ≤ length a.bytes.now = omega (arith, c.loop-w.invariant.0, c.if-bytes-p-lt2.false) in
    (fits, omega (arith, c.loop-w.invariant.1), λ r t. c.loop-w.invariant.2 r (rw (drop-next a.words.now c.loop-w.w-index 0 c.loop-w-test.true) (these-more _ _ a.bytes.now c.loop-w.p fits (sym c.u16_at.ensures ∙ c.if-u16_at-w.false) r t)))

pub returns : goal.returns
returns c =
    let a = c.args in
    c.loop-w.invariant.2 (Ok c.loop-w.p) (rw (drop_of_length-le a.words.now {i = c.loop-w.w-index} c.loop-w-test.false) (these-none a.bytes.now c.loop-w.p (omega (arith, c.loop-w.invariant.1, c.loop-w-test.false, c.loop-w.auto.w-index-end)) c.loop-w.invariant.0))
