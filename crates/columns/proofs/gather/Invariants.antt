use Prim.Native.Nat.{◌≤◌}
use mathlib.Core.List.{map}
use mathlib.Core.Path.{◌≡◌}
use lib.ListN.{length}
use Rattle.columns.proofs.FormLaws.{Passed}
use Rattle.columns.proofs.gather.Given as goal

abbrev pub invariant-loop-i : goal.invariant-loop-i
invariant-loop-i g l =
    let t = g.T.Element in
    (length l.out ≡ length l.initial.out) × (l.count ≤ length l.initial.out)
    × Passed l.body t.WIDTH l.count l.initial.k (map t.bits l.out) l.k l.i
