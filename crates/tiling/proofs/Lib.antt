-- Each promise, proved.
-- Assumes nothing.
pub mod CoverLaws
pub mod TileLaws
pub mod TilesHold
