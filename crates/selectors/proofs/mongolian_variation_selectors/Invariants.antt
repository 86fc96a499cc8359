use mathlib.Core.Path.{◌≡◌}
use mathlib.Core.List.{◌++◌}
use Prim.Native.Nat.{◌-◌}
use lib.ListN.{take, drop}
use Rattle.selectors.specs.Selectors.{settled}
use Rattle.selectors.proofs.mongolian_variation_selectors.Given as goal

abbrev pub invariant-loop-i : goal.invariant-loop-i
invariant-loop-i l = settled l.codes l.initial.actions ≡ take (l.i - 1) l.actions ++ settled (drop (l.i - 1) l.codes) (drop (l.i - 1) l.actions)
