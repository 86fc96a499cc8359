-- What the contracts of `recording` cite.
-- Assumes nothing.
pub mod Recorded
