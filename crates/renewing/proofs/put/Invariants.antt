use mathlib.Core.Path.{◌≡◌}
use lib.ListN.{get_or}
use Rattle.masks.specs.Masks.{mask}
use Rattle.renewing.specs.Renewed.{renewed, span}
use Rattle.renewing.proofs.put.Given as goal

abbrev pub invariant-loop-i : goal.invariant-loop-i
invariant-loop-i l = (l.actions ≡ renewed (span l.k l.i) (λ j. l.action.0) l.initial.actions) × (l.masks ≡ renewed (span l.k l.i) (λ j. mask l.features (get_or l.base j 0) l.action.0) l.initial.masks)
