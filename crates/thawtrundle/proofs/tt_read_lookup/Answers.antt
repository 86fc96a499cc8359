-- `tt_read_lookup` meets its contract.
-- Assumes nothing.
use Rattle.thawtrundle.proofs.ToldLaws.{read_as_lem, unread_as}
use Rattle.thawtrundle.proofs.tt_read_lookup.Goals as goal

pub returns-in-Ok : goal.returns-in-Ok
returns-in-Ok c =
    read_as_lem _ _ c.read_lookup.ensures c.in-Ok.lookup c.in-Ok.is c.type_of.ensures c.components_of.ensures

pub returns-in-Err : goal.returns-in-Err
returns-in-Err c =
    unread_as _ _ c.read_lookup.ensures c.in-Err.refusal c.in-Err.is c.number.ensures
