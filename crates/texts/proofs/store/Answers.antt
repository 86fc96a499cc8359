-- `texts::store` meets its contract: past the end there is nothing to store.
-- Assumes nothing.
use mathlib.Core.Path.{sym}
use lib.Seq.{set_out}
use Rattle.texts.proofs.store.Goals as goal

pub returns-else-at-column : goal.returns-else-at-column
returns-else-at-column g c = let a = c.args in sym (set_out a.column.now a.at a.x c.if-at-column.false)
