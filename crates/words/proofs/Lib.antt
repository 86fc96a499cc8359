-- The laws of `words`.
-- Assumes nothing.
pub mod WordLaws
pub mod WroteLaws
