-- The laws of `placing`.
-- Assumes nothing.
pub mod StepLaws
pub mod PlaceLaws
pub mod RunLaws
