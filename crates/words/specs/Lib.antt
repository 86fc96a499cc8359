-- What the contracts of `words` cite, and those of the crates above it.
-- Assumes nothing.
pub mod Words
