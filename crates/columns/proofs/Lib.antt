-- The laws that the proofs of `columns` and `cases` share, and the form on bodies that are small enough to read.
-- Assumes nothing.
pub mod FormLaws
pub mod FormExamples
