-- `renewing::further_behind` meets its contract.
-- Assumes nothing.
use borrow.Author.Tests.{lt-ltb, le-ltb}
use Rattle.renewing.proofs.held.Held.further_behind.Goals as goal

pub returns-then-k-self : goal.returns-then-k-self
returns-then-k-self c = simp (lt-ltb _ _ c.if-k-self.true) c.letter_from.ensures.letter

pub returns : goal.returns
returns c = simp (le-ltb _ _ c.if-k-self.false)
