use Rattle.packing.proofs.UnpackLaws.{Unpacking}
use Rattle.packing.proofs.unpack.Given as goal

abbrev pub invariant-loop-i : goal.invariant-loop-i
invariant-loop-i l = Unpacking l.n l.rules l.initial.components l.initial.ligatures l.components l.ligatures l.i l.at
