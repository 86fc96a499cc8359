-- `replay_type::replay` is safe and ends: its room has a place for each code that is taken.
-- Assumes nothing.
use mathlib.Core.Path.{sym}
use lib.Seq.{length-take-le}
use Rattle.columns.proofs.FormLaws.{plain, taken_few}
use Rattle.replay_type.proofs.replay.Goals as goal

pub slice_bounds-room-end : goal.slice_bounds-room-end
slice_bounds-room-end c = taken_few _ _ _ _ _ _ (plain c.take_stored-codes.ensures)

pub slice_bounds-types-end : goal.slice_bounds-types-end
slice_bounds-types-end c = sym (length-take-le _ _ (taken_few _ _ _ _ _ _ (plain c.take_stored-codes.ensures)))
