-- `placing::offset_of` meets its contract, in either direction.
-- Assumes nothing.
use Rattle.fitting.proofs.SignedLaws.{back}
use Rattle.placing.proofs.offset_of.Goals as goal

pub returns-then-rtl : goal.returns-then-rtl
returns-then-rtl c = rw c.if-rtl.true (back c.ranges.y)

pub returns-else-rtl : goal.returns-else-rtl
returns-else-rtl c = rw c.if-rtl.false (back c.ranges.x)
