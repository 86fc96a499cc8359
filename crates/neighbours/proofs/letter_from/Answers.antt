-- `neighbours::letter_from` meets its contract: what is found from a place that the walk comes to is what is found from `k`.
-- Assumes nothing.
use native.Mathlib.Omega.{arith}
use Rattle.letters.specs.Types.{T}
use Rattle.letters.proofs.TestLaws.{ne_other, ne_same}
use Rattle.neighbours.proofs.TurnLaws.{from-skips, from-stops, from-ends}
use Rattle.neighbours.proofs.letter_from.Goals as goal

pub loop-i-init : goal.loop-i-init
loop-i-init c = λ found f. f

pub returns-then-ne : goal.returns-then-ne
returns-then-ne c =
    let l = c.loop-i in
    l.invariant _ (from-stops c.args.letters.joinable l.i _ c.type_at-next_type.ensures c.loop-i-test.true (ne_other _ T c.ne.ensures c.if-ne.true) _)

pub loop-i-preserved : goal.loop-i-preserved
loop-i-preserved c =
    let l = c.loop-i in
    λ found f. l.invariant found
    (from-skips c.args.letters.joinable l.i _ c.type_at-next_type.ensures c.loop-i-test.true (ne_same _ T c.ne.ensures c.if-ne.false) _ f)

pub returns : goal.returns
returns c =
    let l = c.loop-i in
    l.invariant _ (from-ends c.args.letters.joinable _ l.i (omega (arith, l.auto.i-end c.requires, c.loop-i-test.false)))
