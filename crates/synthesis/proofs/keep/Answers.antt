-- `synthesis::keep` meets its contract.
-- Assumes nothing.
use Rattle.synthesis.proofs.RowLaws.{keep_one, keep-none}
use Rattle.synthesis.proofs.keep.Goals as goal

pub returns-in-Some : goal.returns-in-Some
returns-in-Some c =
    keep_one c.args.rules.now c.args.at c.in-Some.is c.requires

pub returns-in-None : goal.returns-in-None
returns-in-None c =
    keep-none c.args.rules.now c.args.at c.in-None.is
