-- What the contracts of `adding` cite.
-- Assumes nothing.
pub mod Source
