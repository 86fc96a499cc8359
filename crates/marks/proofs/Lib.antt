-- The modules that belong to no one function.
-- Assumes nothing.
pub mod PassLaws
pub mod NumberLaws
pub mod WalkLaws
pub mod ReorderedLaws
pub mod UtrLaws
pub mod MarkExamples
