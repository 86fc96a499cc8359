-- `recording::record_all` meets its contract: the flag and the actions stored, with what is still to come, are the whole.
-- Assumes nothing.
use Rattle.recording.proofs.ActionLaws.{stored-begins, stored_next, stored-ends}
use Rattle.recording.proofs.record_all.Goals as goal

pub loop-i-init : goal.loop-i-init
loop-i-init c = stored-begins _ _ _ c.requires.1

pub loop-i-preserved : goal.loop-i-preserved
loop-i-preserved c =
    stored_next c.loop-i.invariant c.requires.0 c.loop-i-test.true _ c.new_action.ensures

pub returns : goal.returns
returns c = let e = stored-ends c.loop-i.invariant c.loop-i-test.false in record { any = e.0; stored = e.1 }
