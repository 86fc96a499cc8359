-- The laws of `fonts`.
-- Assumes nothing.
pub mod FontLaws
