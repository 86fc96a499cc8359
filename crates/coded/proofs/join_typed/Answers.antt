-- `coded::join_typed` meets its contract: joining itself, of the types that were looked up.
-- Assumes nothing.
use Rattle.coded.proofs.join_typed.Goals as goal

pub returns : goal.returns
returns c =
    rw (← c.typed-own.ensures, ← c.typed-before.ensures, ← c.typed-behind.ensures) c.join_line.ensures
