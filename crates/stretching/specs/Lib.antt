-- What the contract of `stretch` cites.
-- Assumes nothing.
pub mod Stretching
