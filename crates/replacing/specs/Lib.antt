-- What the contracts of `replacing` cite.
-- Assumes nothing.
pub mod Replaced
