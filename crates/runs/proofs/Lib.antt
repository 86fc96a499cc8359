-- The laws of `runs`.
-- Assumes nothing.
pub mod RecordLaws
pub mod RunLaws
pub mod TurnLaws
pub mod MeasuredLaws
pub mod StretchedLaws
pub mod CountLaws
pub mod LentLaws
