-- `placing::moved` meets its contract, in either direction.
-- Assumes nothing.
use Rattle.runs.specs.Stretched.{moved}
use Rattle.placing.proofs.StepLaws.{then_add, then_sub}
use Rattle.placing.proofs.moved.Goals as goal

pub returns-then-rtl : goal.returns-then-rtl
unfolding moved
returns-then-rtl c =
    rw c.if-rtl.true (then_add c.ranges.x c.ranges.width c.ranges.lap c.sat_sub.ensures c.sat_add.ensures)

pub returns-else-rtl : goal.returns-else-rtl
unfolding moved
returns-else-rtl c =
    rw c.if-rtl.false (then_sub c.ranges.x c.ranges.width c.ranges.lap c.sat_add-else-rtl.ensures c.sat_sub-else-rtl.ensures)
