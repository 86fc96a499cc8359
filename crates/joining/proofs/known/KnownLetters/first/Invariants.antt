use mathlib.Core.Path.{◌≡◌}
use lib.ListN.{drop}
use Rattle.letters.specs.Types.{U}
use Rattle.shapes.specs.Joining.{nearest}
use Rattle.joining.specs.Known.{known_types}
use Rattle.joining.proofs.known.KnownLetters.first.Given as goal

abbrev pub invariant-loop-i : goal.invariant-loop-i
invariant-loop-i l = nearest (known_types l.self) U ≡ nearest (drop l.i (known_types l.self)) U
