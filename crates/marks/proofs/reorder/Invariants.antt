use Prim.Native.Nat.{◌-◌}
use lib.ListN.{length}
use Rattle.blocks.specs.Marks.{marks}
use Rattle.marks.proofs.WalkLaws.{Skipping, Walked}
use Rattle.marks.proofs.reorder.Given as goal

abbrev pub invariant-loop-i : goal.invariant-loop-i
invariant-loop-i l = Skipping (marks l.codes l.classes) l.class l.initial.i l.i

abbrev pub decreases-loop-i : goal.decreases-loop-i
decreases-loop-i l = length l.codes - l.i

abbrev pub invariant-passes : goal.invariant-passes
invariant-passes l = Walked l.low l.high l.start l.initial.codes l.initial.classes l.codes l.classes l.merged l.from l.i l.pass

abbrev pub decreases-passes : goal.decreases-passes
decreases-passes l = 2 - l.pass
