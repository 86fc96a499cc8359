-- `entries::within` meets its contract.
-- Assumes nothing.
use borrow.Author.Tests.{eq-eqb, ne_eqb}
use Rattle.entries.specs.Steps.{within}
use Rattle.entries.proofs.within.Goals as goal

pub returns-then-b-eq-BLANK : goal.returns-then-b-eq-BLANK
unfolding within
returns-then-b-eq-BLANK c = rw (eq-eqb _ _ c.if-b-eq-BLANK.true) c.parted.ensures

pub returns : goal.returns
unfolding within
returns c = rw (ne_eqb _ _ c.if-b-eq-BLANK.false, ← c.digit.ensures) c.typed.ensures
