-- `runs::part` meets its contract, in either direction.
-- Assumes nothing.
use Rattle.runs.specs.Stretched.{part_of}
use Rattle.runs.proofs.part.Goals as goal

pub returns-then-rtl : goal.returns-then-rtl
unfolding part_of
returns-then-rtl c = rw c.if-rtl.true

pub returns-else-rtl : goal.returns-else-rtl
unfolding part_of
returns-else-rtl c = rw c.if-rtl.false
