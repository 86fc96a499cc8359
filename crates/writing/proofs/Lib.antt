-- The laws of `writing`.
-- Assumes nothing.
pub mod WriteLaws
