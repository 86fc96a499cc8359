use Rattle.joining.specs.Known.{known_types}
use Rattle.neighbours.specs.declared.Neighbour.{Neighbour}
use Rattle.neighbours.specs.Beside.{StandsBefore}
use Rattle.neighbours.proofs.letter_before.Given as goal

abbrev pub invariant-loop-i : goal.invariant-loop-i
invariant-loop-i l =
    (found : Neighbour) → StandsBefore (known_types l.letters) l.i l.before.0 found → StandsBefore (known_types l.letters) l.k l.before.0 found
