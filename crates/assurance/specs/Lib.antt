-- What the fallback plan promises, a type a promise; proved in proofs/.
-- Assumes nothing.
pub mod Origins
pub mod Planning
pub mod Lookups
pub mod ByRows
