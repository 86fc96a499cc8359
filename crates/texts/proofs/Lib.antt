-- The laws that the proofs of `texts` share, and the form on texts that are small enough to read.
-- Assumes nothing.
pub mod ReadLaws
pub mod TextLaws
pub mod FormExamples
