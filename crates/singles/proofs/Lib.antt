-- The laws of `singles`.
-- Assumes nothing.
pub mod SingleLaws
