use Prim.Native.Nat.{◌+◌, ◌-◌, ◌*◌}
use Rattle.grouping.proofs.GoingLaws.{Going}
use Rattle.grouping.proofs.sets.Given as goal

abbrev pub invariant-loop-i : goal.invariant-loop-i
invariant-loop-i l = Going l.n l.s l.bytes (l.s - l.i) l.o (16 + 2 * l.i) l.p
