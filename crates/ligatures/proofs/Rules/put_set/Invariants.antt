use Rattle.ligatures.proofs.TurnLaws.{RulesToCome}
use Rattle.ligatures.proofs.Rules.put_set.Given as goal

abbrev pub invariant-loop-k : goal.invariant-loop-k
invariant-loop-k l = RulesToCome l.self.n l.self.components.now l.self.ligatures.now l.i l.e l.at l.initial.area l.initial.offset l.initial.rule l.area l.offset l.rule l.k
