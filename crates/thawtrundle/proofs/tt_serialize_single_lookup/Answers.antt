-- `tt_serialize_single_lookup` meets its contract.
-- Assumes nothing.
use mathlib.Core.Path.{◌∙◌}
use Rattle.layouts.specs.Written.{write_outcome}
use Rattle.thawtrundle.proofs.ToldLaws.{handed_with, told_bytes}
use Rattle.thawtrundle.proofs.tt_serialize_single_lookup.Goals as goal

pub returns : goal.returns
returns c =
    handed_with write_outcome _ c.number.ensures (c.unwrap_or.ensures ∙ told_bytes c.serialize_single_lookup-written.result) c.serialize_single_lookup-written.ensures
