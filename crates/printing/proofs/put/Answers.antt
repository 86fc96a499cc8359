-- `printing::put` meets its contract.
-- Assumes nothing.
use lib.Seq.{set_out}
use borrow.Author.Tests.{lt-ltb, le-ltb}
use Rattle.printing.specs.Writing.{wrote}
use Rattle.printing.proofs.put.Goals as goal

pub returns-then-at-out : goal.returns-then-at-out
unfolding wrote
returns-then-at-out c = rw (lt-ltb _ _ c.if-at-out.true)

pub returns : goal.returns
unfolding wrote
returns c = let a = c.args in rw (le-ltb _ _ c.if-at-out.false, set_out a.out.now a.at a.b c.if-at-out.false)
