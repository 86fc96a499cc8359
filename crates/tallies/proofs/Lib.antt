-- The laws that the proofs of `tallies`, and of programs over it, share.
-- Assumes nothing.
pub mod TallyLaws
