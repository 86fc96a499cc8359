-- What the contracts of `filling` cite.
-- Assumes nothing.
pub mod Filled
