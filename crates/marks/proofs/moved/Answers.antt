-- `marks::moved` meets its contract.
-- Assumes nothing.
use borrow.Author.Tests.{eq-eqb, ne_eqb}
use Rattle.marks.specs.Passes.{moves}
use Rattle.marks.proofs.moved.Goals as goal

pub returns-then-own-class : goal.returns-then-own-class
unfolding moves
returns-then-own-class c = rw (eq-eqb c.args.own c.args.class c.if-own-class.true) c.is_modifier.ensures

pub returns-else-own-class : goal.returns-else-own-class
unfolding moves
returns-else-own-class c = rw (ne_eqb c.args.own c.args.class c.if-own-class.false)
