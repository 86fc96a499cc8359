-- `tt_record_stch` meets its contract.
-- Assumes nothing.
use mathlib.Core.Path.{◌∙◌}
use Rattle.recording.specs.Recorded.{record_outcome}
use Rattle.thawtrundle.proofs.ToldLaws.{handed_with, told_recorded}
use Rattle.thawtrundle.proofs.tt_record_stch.Goals as goal

pub returns : goal.returns
returns c =
    handed_with record_outcome _ c.number.ensures (c.unwrap_or.ensures ∙ told_recorded c.record_stch-answer.result) c.record_stch-answer.ensures
