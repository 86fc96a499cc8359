-- What the contracts of `blocks` cite, and those of `marks`.
-- Assumes nothing.
pub mod Marks
