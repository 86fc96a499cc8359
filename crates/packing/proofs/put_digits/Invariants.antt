use Prim.Native.Nat.{◌+◌, ◌-◌}
use Rattle.packing.proofs.UnpackLaws.{Putting}
use Rattle.packing.proofs.put_digits.Given as goal

abbrev pub invariant-loop-k : goal.invariant-loop-k
invariant-loop-k l = Putting l.n l.x l.initial.components l.at l.components l.rest (l.at + l.n - l.k) l.k
