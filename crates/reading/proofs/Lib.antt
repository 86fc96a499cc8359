-- The laws of `reading`.
-- Assumes nothing.
pub mod ReadLaws
