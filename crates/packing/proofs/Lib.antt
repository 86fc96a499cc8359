-- The laws of `packing`.
-- Assumes nothing.
pub mod PackLaws
pub mod UnpackLaws
