-- What the contracts of `ligatures` cite.
-- Assumes nothing.
pub mod Places
pub mod Sets
