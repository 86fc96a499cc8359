-- The laws of `layouts`.
-- Assumes nothing.
pub mod FitLaws
pub mod SetLaws
pub mod FlatLaws
pub mod SizeLaws
pub mod LimitLaws
pub mod WrittenLaws
pub mod LentLaws
