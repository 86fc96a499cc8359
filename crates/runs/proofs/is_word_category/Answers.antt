-- `runs::is_word_category` meets its contract: the flag carries what was found, and the rest of the list is still to search.
-- Assumes nothing.
use mathlib.Core.Path.{ap}
use Prim.Native.Nat.{◌+◌}
use lib.Dec.{eqb}
use lib.ListN.{get_or, drop, drop_of_length-le}
use Rattle.laws.specs.Lists.{member}
use Rattle.laws.proofs.LoopLaws.{drop-next, seen_next, seen-ends}
use Rattle.runs.specs.Runs.{word_categories}
use Rattle.runs.proofs.is_word_category.Goals as goal

pub loop-listed-preserved : goal.loop-listed-preserved
loop-listed-preserved c =
    let x = c.args.category in
    let i = c.loop-listed.listed-index in
    seen_next c.loop-listed.found c.loop-listed.invariant (eqb (get_or word_categories i 0) x) (member x (drop (i + 1) word_categories)) (ap (member x) (drop-next word_categories i 0 c.loop-listed-test.true))

pub returns : goal.returns
returns c =
    seen-ends c.loop-listed.found c.loop-listed.invariant (ap (member c.args.category) (drop_of_length-le word_categories {i = c.loop-listed.listed-index} c.loop-listed-test.false))
