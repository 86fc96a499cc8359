-- `tt_fallback_plan` meets its contract.
-- Assumes nothing.
use mathlib.Core.Path.{◌∙◌}
use Rattle.thawtrundle.proofs.ToldLaws.{handed}
use Rattle.thawtrundle.proofs.tt_fallback_plan.Goals as goal

pub returns-in-Ok : goal.returns-in-Ok
returns-in-Ok c = rw c.in-Ok.is at c.new.ensures

pub returns-in-Err : goal.returns-in-Err
returns-in-Err c = let told = rw c.in-Err.is at c.new.ensures in handed c.number.ensures told
