use Rattle.fonts.specs.Lent.{font_lent}
use Rattle.synthesis.proofs.RowLaws.{Packing}
use Rattle.synthesis.proofs.ligature_rule.Given as goal

abbrev pub invariant-loop-k : goal.invariant-loop-k
invariant-loop-k l = Packing (font_lent l.font) l.n l.components l.at l.initial.x l.k l.x
