-- `runs::is_tile` meets its contract: the two tests are those of the rule.
-- Assumes nothing.
use mathlib.Core.Path.{refl}
use Rattle.runs.specs.Runs.{tile_action}
use Rattle.runs.proofs.is_tile.Goals as goal

pub returns : goal.returns
unfolding tile_action
returns c = refl
