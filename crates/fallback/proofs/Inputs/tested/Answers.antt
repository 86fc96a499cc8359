-- `fallback::Inputs::tested` meets its contract: what the tests say is what the type keeps.
-- Assumes nothing.
use borrow.Author.Rules.{rules}
use Rattle.fallback.proofs.Inputs.tested.Goals as goal

pub invariant_of-result-2-clause-four : goal.invariant_of-result-2-clause-four
invariant_of-result-2-clause-four c = search rules
