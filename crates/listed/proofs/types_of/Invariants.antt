use Prim.Native.Nat.{◌-◌}
use lib.ListN.{length}
use Rattle.listed.specs.Rows.{type_in}
use Rattle.listed.specs.Listed.{listed}
use Rattle.listed.proofs.FillLaws.{Filled}
use Rattle.listed.proofs.types_of.Given as goal

abbrev pub invariant-loop-i : goal.invariant-loop-i
invariant-loop-i l = Filled (type_in listed) l.codes l.types l.i

abbrev pub decreases-loop-i : goal.decreases-loop-i
decreases-loop-i l = length l.codes - l.i
