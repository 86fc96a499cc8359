-- The modules that belong to no one function.
-- Assumes nothing.
pub mod AllowedLaws
pub mod CurrentLaws
pub mod LocalLaws
pub mod OrderLaws
pub mod ReplaceExamples
