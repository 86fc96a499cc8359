-- `entries::parted` meets its contract, a case of `parted` a path.
-- Assumes nothing.
use Rattle.entries.specs.Steps.{parted}
use Rattle.entries.proofs.parted.Goals as goal

pub returns-then-s : goal.returns-then-s
unfolding parted
returns-then-s c = rw c.if-s.true

pub returns-then-s-2 : goal.returns-then-s-2
unfolding parted
returns-then-s-2 c =
    rw (c.if-s.false, c.if-s-2.true, c.byte.ensures)

pub returns : goal.returns
unfolding parted
returns c = rw (c.if-s.false, c.if-s-2.false)
