-- `listed::type_of` meets its contract: the type at the code's place in its block's word.
-- Assumes nothing.
use Rattle.listed.proofs.ListedLaws.{type-by-word}
use Rattle.listed.proofs.type_of.Goals as goal

pub returns : goal.returns
returns c =
    type-by-word c.args.code _ c.word_of-word.ensures
