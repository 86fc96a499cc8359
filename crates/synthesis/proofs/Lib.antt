-- The laws of `synthesis`.
-- Assumes nothing.
pub mod RuledLaws
pub mod RowLaws
pub mod CollectLaws
