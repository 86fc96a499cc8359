-- The laws of `copying`.
-- Assumes nothing.
pub mod ColumnsLaws
pub mod CopyLaws
