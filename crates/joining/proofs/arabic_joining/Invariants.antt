use Rattle.letters.specs.Types.{U}
use Rattle.shapes.specs.Joining.{nearest}
use Rattle.joining.specs.Known.{known_types}
use Rattle.joining.proofs.MidwayLaws.{Walking}
use Rattle.joining.proofs.arabic_joining.Given as goal

abbrev pub invariant-loop-i : goal.invariant-loop-i
invariant-loop-i l = Walking l.table l.line.types.now l.line.categories.now (nearest (known_types l.fn.pre) U) l.after.0 l.actions l.state l.prev l.i
