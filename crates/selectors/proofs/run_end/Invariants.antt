use mathlib.Core.Path.{◌≡◌}
use Prim.Native.Nat.{◌+◌}
use lib.ListN.{drop}
use Rattle.selectors.specs.Selectors.{run}
use Rattle.selectors.proofs.run_end.Given as goal

abbrev pub invariant-loop-i : goal.invariant-loop-i
invariant-loop-i l = l.k + run (drop l.k l.codes) ≡ l.i + run (drop l.i l.codes)
