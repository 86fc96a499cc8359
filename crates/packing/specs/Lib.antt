-- What the contracts of `packing` cite, and those of the crates above it.
-- Assumes nothing.
pub mod Packed
