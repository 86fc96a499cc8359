-- The modules that belong to no one function.
-- Assumes nothing.
pub mod SignedLaws
pub mod FitLaws
pub mod FitExamples
