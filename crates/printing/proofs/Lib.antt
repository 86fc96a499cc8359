-- The laws that the proofs of `printing` share.
-- Assumes nothing.
pub mod WriteLaws
