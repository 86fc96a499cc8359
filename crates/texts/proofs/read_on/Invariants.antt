use mathlib.Core.Path.{◌≡◌}
use lib.ListN.{length, drop}
use Rattle.texts.specs.Steps.{Hold, read_on}
use Rattle.texts.proofs.read_on.Given as goal

abbrev pub invariant-loop-b : goal.invariant-loop-b
invariant-loop-b l =
    (length l.codes ≡ length l.initial.codes)
    × (length l.widths ≡ length l.initial.widths)
    × (length l.types ≡ length l.initial.types)
    × (length l.categories ≡ length l.initial.categories)
    × (read_on (Hold l.initial.at l.initial.codes l.initial.widths l.initial.types l.initial.categories) l.piece ≡ read_on (Hold l.at l.codes l.widths l.types l.categories) (drop l.b-index l.piece))
