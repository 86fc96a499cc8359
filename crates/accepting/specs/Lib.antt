-- What the contracts of `accepting` cite.
-- Assumes nothing.
pub mod Scanned
