-- What the contracts of `coded` cite.
-- Assumes nothing.
pub mod Coded
