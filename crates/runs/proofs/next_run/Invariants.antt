use Rattle.runs.proofs.TurnLaws.{NextFrom}
use Rattle.runs.proofs.next_run.Given as goal

abbrev pub invariant-loop-k : goal.invariant-loop-k
invariant-loop-k l = NextFrom l.rtl l.from l.actions l.k
