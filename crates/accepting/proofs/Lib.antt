-- The laws of `accepting`.
-- Assumes nothing.
pub mod TookLaws
pub mod PieceLaws
pub mod SeriesLaws
