use lib.ListN.{drop}
use Rattle.words.specs.Words.{Wrote}
use Rattle.words.proofs.put_each.Given as goal

abbrev pub invariant-loop-w : goal.invariant-loop-w
invariant-loop-w l = Wrote l.initial.area l.at l.words l.area l.p (drop l.w-index l.words)
