-- `texts::end_line` meets its contract.
-- Assumes nothing.
use Rattle.texts.specs.Steps.{ended}
use Rattle.texts.proofs.end_line.Goals as goal

pub returns-in_default : goal.returns-in_default
unfolding ended
returns-in_default c = rw (← c.said.ensures.state, c.in_default.is)

pub returns : goal.returns
unfolding ended
returns c =
    rw (← c.said.ensures.state, c.in-Some.is, c.start.ensures, c.up.ensures, c.store.ensures, c.store-2.ensures, c.store-3.ensures, c.store-4.ensures)
