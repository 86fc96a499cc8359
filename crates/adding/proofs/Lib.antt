-- The laws of `adding`.
-- Assumes nothing.
pub mod OrderedLaws
pub mod PushedLaws
