use Rattle.runs.proofs.TurnLaws.{WordFrom}
use Rattle.runs.proofs.word_at.Given as goal

abbrev pub invariant-loop-k : goal.invariant-loop-k
invariant-loop-k l = WordFrom l.rtl l.from l.line.categories.now l.line.ignorables.now l.line.actions.now l.line.advances.now l.k l.sum
