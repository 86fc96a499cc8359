-- What the contracts of the reader cite.
-- Assumes nothing.
pub mod Scans
pub mod Grammar
pub mod Exact
