-- `cases::is_flag` meets its contract.
-- Assumes nothing.
use Rattle.cases.proofs.is_flag.Goals as goal

pub returns : goal.returns
returns c = rw c.first.ensures
