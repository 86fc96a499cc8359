-- The laws of `laying`.
-- Assumes nothing.
pub mod LaidLaws
