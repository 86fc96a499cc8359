-- What the contracts of `placing` cite.
-- Assumes nothing.
pub mod Placed
