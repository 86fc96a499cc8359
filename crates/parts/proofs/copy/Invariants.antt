use Rattle.laws.proofs.PasteLaws.{Copying}
use Rattle.parts.proofs.copy.Given as goal

abbrev pub invariant-loop-j : goal.invariant-loop-j
invariant-loop-j g l = Copying l.from l.initial.to l.i l.s l.o l.j l.to
