use mathlib.Core.Path.{◌≡◌}
use mathlib.Core.List.{◌++◌}
use lib.ListN.{take, drop}
use Rattle.masks.specs.Masks.{masks as masks_of}
use Rattle.masks.proofs.fill.Given as goal

abbrev pub invariant-loop-i : goal.invariant-loop-i
invariant-loop-i l = masks_of l.features l.base l.actions ≡ take l.i l.masks ++ masks_of l.features (drop l.i l.base) (drop l.i l.actions)
