-- `fallback::settle` meets its contract.
-- Assumes nothing.
use Rattle.fallback.proofs.SettleLaws.{too_short, put_in}
use Rattle.fallback.proofs.settle.Goals as goal

pub returns-then-area-n : goal.returns-then-area-n
returns-then-area-n c =
    too_short c.args.draft c.args.scratch.now c.args.area.now c.if-area-n.true

pub returns : goal.returns
returns c =
    put_in c.args.draft c.args.scratch.now c.args.area.now c.if-area-n.false c.copy.new.to c.copy.ensures
