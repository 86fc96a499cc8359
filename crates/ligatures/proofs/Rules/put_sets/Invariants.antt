use Prim.Native.Nat.{◌-◌}
use lib.ListN.{length}
use Rattle.ligatures.proofs.TurnLaws.{SetsToCome}
use Rattle.ligatures.proofs.Rules.put_sets.Given as goal

abbrev pub invariant-loop-i : goal.invariant-loop-i
invariant-loop-i l = SetsToCome l.self.n l.self.components.now l.self.ligatures.now l.initial.area l.offsets l.leaders l.at l.area l.i l.offset l.leader l.set

abbrev pub decreases-loop-i : goal.decreases-loop-i
decreases-loop-i l = length l.self.ligatures.now - l.i
