-- The laws of `stretching`, and worked examples.
-- Assumes nothing.
pub mod StretchingLaws
pub mod StretchExamples
pub mod CallLaws
