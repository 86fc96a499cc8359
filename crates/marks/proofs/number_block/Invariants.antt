use Rattle.marks.proofs.NumberLaws.{Numbering}
use Rattle.marks.proofs.number_block.Given as goal

abbrev pub invariant-loop-j : goal.invariant-loop-j
invariant-loop-j l = Numbering l.codes l.initial.classes l.i l.class l.new l.classes l.j
