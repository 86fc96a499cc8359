-- `texts::step` meets its contract.
-- Assumes nothing.
use borrow.Author.Tests.{eq-eqb, ne_eqb}
use Rattle.texts.specs.Steps.{stepped}
use Rattle.texts.proofs.step.Goals as goal

pub returns-then-b-eq-LINE_END : goal.returns-then-b-eq-LINE_END
unfolding stepped
returns-then-b-eq-LINE_END c =
    rw (eq-eqb _ _ c.if-b-eq-LINE_END.true) c.end_line.ensures

pub returns : goal.returns
unfolding stepped
returns c = rw (ne_eqb _ _ c.if-b-eq-LINE_END.false, c.within.ensures)
