-- `neighbours::letter_before` meets its contract: what is found from a place that the walk comes to is what is found from `k`.
-- Assumes nothing.
use Prim.Native.Nat.{◌-◌}
use native.Mathlib.Omega.{arith}
use Rattle.letters.specs.Types.{T}
use Rattle.letters.proofs.TestLaws.{ne_other, ne_same}
use Rattle.neighbours.proofs.TurnLaws.{before-skips, before-stops, before-ends}
use Rattle.neighbours.proofs.letter_before.Goals as goal

pub loop-i-init : goal.loop-i-init
loop-i-init c = λ found f. f

pub returns-then-ne : goal.returns-then-ne
returns-then-ne c =
    let l = c.loop-i in
    l.invariant _
    (before-stops c.args.letters.joinable (l.i - 1) _ c.type_at-prev_type.ensures (omega (arith, c.requires, l.auto.i, c.loop-i-test.true)) (ne_other _ T c.ne.ensures c.if-ne.true) _ l.i (omega (arith, c.loop-i-test.true)))

pub loop-i-preserved : goal.loop-i-preserved
loop-i-preserved c =
    let l = c.loop-i in
    λ found f. l.invariant found
    (before-skips c.args.letters.joinable (l.i - 1) _ c.type_at-prev_type.ensures (omega (arith, c.requires, l.auto.i, c.loop-i-test.true)) (ne_same _ T c.ne.ensures c.if-ne.false) _ l.i (omega (arith, c.loop-i-test.true)) f)

pub returns : goal.returns
returns c =
    c.loop-i.invariant _ (before-ends c.args.letters.joinable _ c.loop-i.i (omega (arith, c.loop-i-test.false)))
