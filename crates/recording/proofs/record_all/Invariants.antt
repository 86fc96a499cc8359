use Rattle.recording.proofs.ActionLaws.{Stored}
use Rattle.recording.proofs.record_all.Given as goal

abbrev pub invariant-loop-i : goal.invariant-loop-i
invariant-loop-i l = Stored l.multiplied l.components l.initial.actions l.actions l.any l.i
