-- The definitions that the contracts of `replays` cite.
-- Assumes nothing.
pub mod Reading
