use Prim.Native.Nat.{◌-◌}
use lib.ListN.{length}
use Rattle.ligatures.proofs.SurveyLaws.{Surveyed}
use Rattle.ligatures.proofs.Rules.survey.Given as goal

abbrev pub invariant-loop-i : goal.invariant-loop-i
invariant-loop-i l = Surveyed l.self.n l.self.components.now l.self.ligatures.now l.sets l.longest l.last l.i

abbrev pub decreases-loop-i : goal.decreases-loop-i
decreases-loop-i l = length l.self.ligatures.now - l.i
