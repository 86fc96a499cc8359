-- `texts::finish` meets its contract.
-- Assumes nothing.
use Rattle.texts.specs.Steps.{finished}
use Rattle.texts.proofs.finish.Goals as goal

pub returns-then-s : goal.returns-then-s
unfolding finished
returns-then-s c = rw c.if-s.true

pub returns : goal.returns
unfolding finished
returns c =
    rw c.if-s.false c.end_line.ensures
