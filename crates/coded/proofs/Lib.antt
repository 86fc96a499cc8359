-- The laws of `coded`.
-- Assumes nothing.
pub mod CodedLaws
