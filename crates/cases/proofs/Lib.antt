-- The laws that the proofs of `cases` share, and examples of comparing.
-- Assumes nothing.
pub mod ComparingLaws
pub mod ComparingExamples
