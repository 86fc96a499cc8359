-- `replays::run` is safe and ends: each case that is counted leaves fewer that can be.
-- Assumes nothing.
use Rattle.tallies.proofs.TallyLaws.{counted-ahead}
use Rattle.replays.proofs.run.Goals as goal

pub loop-tally-smaller : goal.loop-tally-smaller
loop-tally-smaller g c =
    let l = c.loop-tally in
    counted-ahead l.tally l.what c.goes_on.ensures c.loop-tally-test.true c.tell-tally.ensures
