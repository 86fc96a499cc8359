use mathlib.Core.Path.{◌≡◌}
use mathlib.Core.Bool.{◌||◌}
use lib.ListN.{drop}
use Rattle.laws.specs.Lists.{member}
use Rattle.marks.specs.Modifiers.{modifiers, modifier}
use Rattle.marks.proofs.is_modifier.Given as goal

abbrev pub invariant-loop-mark : goal.invariant-loop-mark
invariant-loop-mark l = modifier l.code.0 ≡ (l.found || member l.code.0 (drop l.mark-index modifiers))
