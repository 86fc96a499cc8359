-- `tt_join_line` meets its contract.
-- Assumes nothing.
use Rattle.thawtrundle.proofs.ToldLaws.{handed}
use Rattle.thawtrundle.proofs.tt_join_line.Goals as goal

pub returns : goal.returns
returns c =
    handed c.number.ensures c.join_line-verdict.ensures
