-- `words::put_each` meets its contract: of the words that are still to come, the whole is made.
-- Assumes nothing.
use Rattle.words.proofs.WroteLaws.{begin, next, room_next, no_more}
use Rattle.words.proofs.put_each.Goals as goal

pub loop-w-init : goal.loop-w-init
loop-w-init c = begin _ _ _ c.requires

pub put_u16-p-requires : goal.put_u16-p-requires
put_u16-p-requires c = room_next c.args.words.now c.loop-w.w-index c.loop-w-test.true c.loop-w.invariant

pub loop-w-preserved : goal.loop-w-preserved
loop-w-preserved c = next c.args.words.now c.loop-w.w-index c.loop-w-test.true c.loop-w.invariant c.put_u16-p.ensures

pub returns : goal.returns
returns c = no_more c.args.words.now c.loop-w.w-index c.loop-w-test.false c.loop-w.invariant
