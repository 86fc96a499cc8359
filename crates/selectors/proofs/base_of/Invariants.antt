use mathlib.Core.Path.{◌≡◌}
use Prim.Native.Nat.{◌-◌}
use Rattle.selectors.specs.Selectors.{base}
use Rattle.selectors.proofs.base_of.Given as goal

abbrev pub invariant-loop-i : goal.invariant-loop-i
invariant-loop-i l = base l.codes l.k ≡ base l.codes (l.i - 1)
