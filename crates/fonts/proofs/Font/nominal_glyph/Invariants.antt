use Rattle.fonts.proofs.FontLaws.{Searching}
use Rattle.fonts.proofs.Font.nominal_glyph.Given as goal

abbrev pub invariant-loop-half : goal.invariant-loop-half
invariant-loop-half l = Searching l.self.codes.now l.sought l.base l.half

abbrev pub decreases-loop-half : goal.decreases-loop-half
decreases-loop-half l = l.half
