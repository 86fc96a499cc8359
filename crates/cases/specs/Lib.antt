-- The definitions that the contracts of `cases` cite.
-- Assumes nothing.
pub mod Comparing
pub mod Singles
