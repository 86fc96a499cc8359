-- `refusals::within` meets its contract: what the test says of the column is what the flag and the rest of it say.
-- Assumes nothing.
use mathlib.Core.Path.{ap}
use lib.ListN.{drop_of_length-le}
use Rattle.laws.proofs.LoopLaws.{flag-next, flag-ends}
use Rattle.refusals.specs.Columns.{at_most}
use Rattle.refusals.proofs.ColumnLaws.{at_most_turn}
use Rattle.refusals.proofs.within.Goals as goal

pub loop-x-preserved : goal.loop-x-preserved
loop-x-preserved c =
    let l = c.loop-x in
    flag-next l.ok l.invariant _ _ (at_most_turn _ _ _ c.loop-x-test.true)

pub returns : goal.returns
returns c =
    let l = c.loop-x in
    flag-ends l.ok l.invariant (ap (at_most _) (drop_of_length-le _ c.loop-x-test.false))
