-- `tt_replace_letter` meets its contract.
-- Assumes nothing.
use Rattle.thawtrundle.proofs.ToldLaws.{handed}
use Rattle.thawtrundle.proofs.tt_replace_letter.Goals as goal

pub returns : goal.returns
returns c =
    handed c.number.ensures c.replace_letter-verdict.ensures
