-- What stretching promises of the copies of a run and of where its tiles stand, a type a promise; proved in proofs/.
-- Assumes nothing.
pub mod Tiles
