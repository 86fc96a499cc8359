-- `runs::in_word` meets its contract: the tests are those of the rule.
-- Assumes nothing.
use mathlib.Core.Path.{sym, ◌∙◌}
use borrow.Author.Tests.{eq-eqb, ne_eqb}
use Rattle.runs.specs.Runs.{word_numbers}
use Rattle.runs.proofs.in_word.Goals as goal

pub returns-else-not-is_tile : goal.returns-else-not-is_tile
unfolding word_numbers
returns-else-not-is_tile c = rw (sym c.is_tile.ensures ∙ c.if-not-is_tile.false, c.if-not-is_tile.false)

pub returns-then-ignorable-ne0 : goal.returns-then-ignorable-ne0
unfolding word_numbers
returns-then-ignorable-ne0 c = rw (sym c.is_tile.ensures ∙ c.if-not-is_tile.true, ne_eqb c.args.ignorable 0 c.if-ignorable-ne0.true)

pub returns-else-ignorable-ne0 : goal.returns-else-ignorable-ne0
unfolding word_numbers
returns-else-ignorable-ne0 c =
    rw (sym c.is_tile.ensures ∙ c.if-not-is_tile.true, eq-eqb c.args.ignorable 0 c.if-ignorable-ne0.false) c.is_word_category.ensures
