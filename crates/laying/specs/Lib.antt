-- What the contracts of `laying` cite.
-- Assumes nothing.
pub mod Laid
