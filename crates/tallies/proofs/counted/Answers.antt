-- `tallies::counted` meets its contract, field by field.
-- Assumes nothing.
use Rattle.tallies.proofs.counted.Goals as goal

pub returns : goal.returns
returns c = rw (c.up.ensures, c.up-2.ensures, c.is_case.ensures, c.is_off.ensures)
