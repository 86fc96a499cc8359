-- The laws of `recognizing`.
-- Assumes nothing.
pub mod WholeLaws
pub mod EndLaws
