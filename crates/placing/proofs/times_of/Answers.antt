-- `placing::times_of` meets its contract: only repeating tiles are copied.
-- Assumes nothing.
use borrow.Author.Tests.{ne_eqb}
use Rattle.placing.proofs.times_of.Goals as goal

pub returns-then-action : goal.returns-then-action
returns-then-action c = rw c.if-action.true

pub returns-else-action : goal.returns-else-action
returns-else-action c = rw (ne_eqb _ _ c.if-action.false)
