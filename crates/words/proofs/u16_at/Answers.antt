-- `words::u16_at` meets its contract.
-- Assumes nothing.
use Rattle.words.specs.Words.{word_at}
use Rattle.words.proofs.u16_at.Goals as goal

pub returns : goal.returns
unfolding word_at
returns c = c.from_be_bytes.ensures
