use Prim.Native.Nat.{◌+◌, ◌-◌, ◌*◌}
use Rattle.filling.proofs.SetsLaws.{Filling}
use Rattle.filling.proofs.fill_sets.Given as goal

abbrev pub invariant-loop-k : goal.invariant-loop-k
invariant-loop-k l = Filling l.n l.s l.bytes l.initial.components l.initial.ligatures (l.s - l.k) (18 + 2 * l.s + 2 * l.k) l.p l.x l.i l.components l.ligatures
