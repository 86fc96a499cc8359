-- The modules that belong to no one function.
-- Assumes nothing.
pub mod RunLaws
pub mod SelectorLaws
pub mod SelectorExamples
pub mod WalkLaws
