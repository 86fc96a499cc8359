-- `tt_join_codes` meets its contract.
-- Assumes nothing.
use Rattle.thawtrundle_codes.proofs.tt_join_codes.Goals as goal

pub returns : goal.returns
returns c =
    rw c.number.ensures c.join_codes-verdict.ensures
