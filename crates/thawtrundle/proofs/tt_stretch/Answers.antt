-- `tt_stretch` meets its contract.
-- Assumes nothing.
use mathlib.Core.Path.{◌∙◌}
use Rattle.stretching.specs.Stretching.{stretch_outcome}
use Rattle.thawtrundle.proofs.ToldLaws.{handed_with, told_records}
use Rattle.thawtrundle.proofs.tt_stretch.Goals as goal

pub returns : goal.returns
returns c =
    handed_with stretch_outcome _ c.number.ensures (c.unwrap_or.ensures ∙ told_records c.stretch-answer.result) c.stretch-answer.ensures
