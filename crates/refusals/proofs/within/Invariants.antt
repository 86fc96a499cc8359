use mathlib.Core.Path.{◌≡◌}
use mathlib.Core.Bool.{◌&&◌}
use lib.ListN.{drop}
use Rattle.refusals.specs.Columns.{at_most}
use Rattle.refusals.proofs.within.Given as goal

abbrev pub invariant-loop-x : goal.invariant-loop-x
invariant-loop-x l = at_most l.most l.column ≡ (l.ok && at_most l.most (drop l.x-index l.column))
