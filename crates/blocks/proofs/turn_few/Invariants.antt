use Prim.Native.Nat.{◌-◌}
use Rattle.blocks.proofs.BlockLaws.{Turning}
use Rattle.blocks.proofs.turn_few.Given as goal

abbrev pub invariant-loop-lo : goal.invariant-loop-lo
invariant-loop-lo l = Turning l.a l.initial.codes l.initial.classes l.codes l.classes l.lo l.hi

abbrev pub decreases-loop-lo : goal.decreases-loop-lo
decreases-loop-lo l = l.hi - l.lo
