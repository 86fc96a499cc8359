-- `lines::settle` meets its contract.
-- Assumes nothing.
use Rattle.lines.proofs.settle.Goals as goal

pub returns-then-mongolian : goal.returns-then-mongolian
returns-then-mongolian c = simp c.if-mongolian.true c.mongolian_variation_selectors.ensures
