-- What the contracts of `lines` cite, and those of every call above on a held line.
-- Assumes nothing.
pub mod Held
pub mod Joined
pub mod Lent
