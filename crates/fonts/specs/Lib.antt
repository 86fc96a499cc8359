-- What the contracts of `fonts` cite, and those of the crates above it.
-- Assumes nothing.
pub mod Font
pub mod Lent
