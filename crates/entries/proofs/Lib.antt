-- The laws that the proofs of `entries` share, from a digit to a line.
-- Assumes nothing.
pub mod StepLaws
pub mod FieldLaws
pub mod LineLaws
pub mod RangeLaws
