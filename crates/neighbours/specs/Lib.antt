-- What the contracts of `neighbours` cite.
-- Assumes nothing.
pub mod Beside
