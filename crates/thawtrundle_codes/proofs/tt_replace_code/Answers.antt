-- `tt_replace_code` meets its contract.
-- Assumes nothing.
use Rattle.thawtrundle_codes.proofs.tt_replace_code.Goals as goal

pub returns : goal.returns
returns c =
    rw c.number.ensures c.replace_code-verdict.ensures
