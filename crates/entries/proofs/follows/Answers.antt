-- `entries::follows` meets its contract.
-- Assumes nothing.
use Rattle.entries.specs.Steps.{follows}
use Rattle.entries.proofs.follows.Goals as goal

pub returns : goal.returns
unfolding follows
returns c = rw (c.base.ensures, c.most.ensures)
