-- `refusals::rising` meets its contract: what the test says of the column is what the flag and the rest of it say.
-- Assumes nothing.
use mathlib.Core.Path.{ap, ◌∙◌}
use mathlib.Core.Bool.{Bool, cond, not}
use Prim.Native.Nat.{◌-◌}
use native.Mathlib.Omega.{arith}
use Rattle.laws.proofs.LoopLaws.{flag-next, flag-ends}
use Rattle.refusals.proofs.ColumnLaws.{strictly_turn, rising-ends}
use Rattle.refusals.proofs.rising.Goals as goal

pub loop-i-preserved : goal.loop-i-preserved
loop-i-preserved c =
    let l = c.loop-i in
    flag-next l.ok l.invariant _ _ (strictly_turn _ _ l.auto.i c.loop-i-test.true)

pub returns : goal.returns
returns c =
    let l = c.loop-i in
    c.unless.ensures ∙ ap (λ (b : Bool). cond (not b) 3 0) (flag-ends l.ok l.invariant (rising-ends 1 c.args.column.now (l.i - 1) (omega (arith, l.auto.i, c.loop-i-test.false))))
