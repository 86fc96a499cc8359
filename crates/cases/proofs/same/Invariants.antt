use mathlib.Core.List.{map}
use lib.ListN.{length}
use Rattle.columns.proofs.FormLaws.{Passed}
use Rattle.cases.proofs.same.Given as goal

abbrev pub invariant-loop-x : goal.invariant-loop-x
invariant-loop-x g l =
    let t = g.T.Element in
    Passed l.body t.WIDTH (length l.got) l.initial.k (map t.bits l.got) l.k l.x-index
