-- The modules that belong to no one function.
-- Assumes nothing.
pub mod MarkLaws
pub mod BlockLaws
