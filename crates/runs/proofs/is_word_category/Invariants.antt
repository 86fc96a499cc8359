use mathlib.Core.Path.{◌≡◌}
use mathlib.Core.Bool.{◌||◌}
use lib.ListN.{drop}
use Rattle.laws.specs.Lists.{member}
use Rattle.runs.specs.Runs.{word_categories}
use Rattle.runs.proofs.is_word_category.Given as goal

abbrev pub invariant-loop-listed : goal.invariant-loop-listed
invariant-loop-listed l = member l.category word_categories ≡ (l.found || member l.category (drop l.listed-index word_categories))
