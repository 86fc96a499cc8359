-- What the contracts of `grouping` cite.
-- Assumes nothing.
pub mod Grouped
