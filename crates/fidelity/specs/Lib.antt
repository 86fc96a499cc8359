-- What writing and reading lookups promises, a type a promise; proved in proofs/.
-- Assumes nothing.
pub mod Followed
pub mod Writing
pub mod Reading
pub mod Settled
