use Rattle.joining.specs.Known.{known_types}
use Rattle.neighbours.specs.declared.Neighbour.{Neighbour}
use Rattle.neighbours.specs.Beside.{StandsFrom}
use Rattle.neighbours.proofs.letter_from.Given as goal

abbrev pub invariant-loop-i : goal.invariant-loop-i
invariant-loop-i l =
    (found : Neighbour) → StandsFrom (known_types l.letters) l.i l.behind.0 found → StandsFrom (known_types l.letters) l.k l.behind.0 found
