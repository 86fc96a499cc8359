-- What the contracts of `copying` cite.
-- Assumes nothing.
pub mod Pasted
