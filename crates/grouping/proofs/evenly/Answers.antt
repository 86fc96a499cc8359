-- `grouping::evenly` meets its contract: what the words still to come are answered is the answer for all.
-- Assumes nothing.
use native.Mathlib.Omega.{arith}
use mathlib.Core.Path.{◌≡◌, sym, ◌∙◌}
use Prim.Native.Nat.{◌+◌, ◌-◌, ◌*◌, ◌≤◌, ◌<◌}
use lib.ListN.{length}
use Rattle.std.specs.Prelude.{Ok, Err}
use Rattle.accepting.specs.declared.Fault.TheVariants.{Wrong, Short}
use Rattle.accepting.proofs.PieceLaws.{these-short, these-wrong, these-more, these-none}
use Rattle.grouping.proofs.RuleLaws.{evenly-next, more}
use Rattle.grouping.proofs.evenly.Goals as goal
use Rattle.grouping.proofs.evenly.Goals.{In-loop-i}

some : (s : In-loop-i) → 0 < s.args.c - s.loop-i.i
some s = omega (arith, s.loop-i-test.true)

pub returns-then-bytes-p-lt2 : goal.returns-then-bytes-p-lt2
returns-then-bytes-p-lt2 c =
    let a = c.args in
    let l = c.loop-i in
    l.invariant.2 (Err Short) (rw (evenly-next (a.c - l.i) l.o a.by (some (goal.at.returns-then-bytes-p-lt2 c).In-loop-i)) (these-short _ _ a.bytes.now (a.at + 2 * l.i) (omega (arith, l.invariant.0, c.if-bytes-p-lt2.true))))

pub returns-then-from-o : goal.returns-then-from-o
returns-then-from-o c =
    let a = c.args in
    let l = c.loop-i in
    l.invariant.2 (Err (Wrong (a.at + 2 * l.i))) (rw (evenly-next (a.c - l.i) l.o a.by (some (goal.at.returns-then-from-o c).In-loop-i)) (these-wrong _ _ a.bytes.now (a.at + 2 * l.i) (omega (arith, l.invariant.0, c.if-bytes-p-lt2.false)) (λ q. c.if-from-o.true (c.from.ensures ∙ c.u16_at.ensures ∙ q))))

pub loop-i-preserved : goal.loop-i-preserved
loop-i-preserved c =
    let a = c.args in
    let l = c.loop-i in
    let left = some (goal.at.loop-i-preserved c).In-loop-i in
    let fits : a.at + 2 * l.i + 2 ≤ length a.bytes.now = omega (arith, l.invariant.0, c.if-bytes-p-lt2.false) in
    let on : a.at + 2 * l.i + 2 ≡ a.at + 2 * (l.i + 1) = omega arith in
    let less : a.c - l.i - 1 ≡ a.c - (l.i + 1) = omega arith in (
      omega (arith, fits),
      rw (← less) (omega (arith, l.invariant.1, more (a.c - l.i) a.by left)),
      λ r t. l.invariant.2 r (rw (evenly-next (a.c - l.i) l.o a.by left) (these-more _ _ a.bytes.now (a.at + 2 * l.i) fits (sym c.u16_at.ensures ∙ sym c.from.ensures ∙ c.if-from-o.false) r (rw (on, less) t))),
    )

pub returns : goal.returns
returns c =
    let a = c.args in
    let l = c.loop-i in
    let all : l.i ≡ a.c = omega (arith, c.loop-i-test.false, l.auto.i-end) in
    let none : a.c - l.i ≡ 0 = omega (arith, all) in
    let end : a.at + 2 * l.i ≡ a.at + 2 * a.c = omega (arith, all) in
    l.invariant.2 (Ok (a.at + 2 * a.c)) (rw (none, end) (these-none a.bytes.now (a.at + 2 * a.c) (omega arith) (omega (arith, end, l.invariant.0))))
