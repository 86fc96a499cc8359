-- The definitions that the contracts of `columns` cite.
-- Assumes nothing.
pub mod Form
