use mathlib.Core.Path.{◌≡◌}
use mathlib.Core.Bool.{◌&&◌}
use Prim.Native.Nat.{◌-◌}
use lib.ListN.{drop}
use Rattle.refusals.specs.Columns.{rising}
use Rattle.refusals.proofs.rising.Given as goal

abbrev pub invariant-loop-i : goal.invariant-loop-i
invariant-loop-i l = rising 1 l.column ≡ (l.ok && rising 1 (drop (l.i - 1) l.column))
