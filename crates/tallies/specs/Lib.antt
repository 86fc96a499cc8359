-- The definitions that the contracts of `tallies` cite.
-- Assumes nothing.
pub mod Counting
