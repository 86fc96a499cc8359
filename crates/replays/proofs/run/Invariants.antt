use Rattle.tallies.proofs.TallyLaws.{ahead}
use Rattle.replays.proofs.run.Given as goal

abbrev pub invariant-loop-tally : goal.invariant-loop-tally
invariant-loop-tally g l = Unit {0}

abbrev pub decreases-loop-tally : goal.decreases-loop-tally
decreases-loop-tally g l = ahead l.tally
