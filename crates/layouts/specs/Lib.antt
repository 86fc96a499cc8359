-- What the contracts of the writers and readers of lookups cite.
-- Assumes nothing.
pub mod Tables
pub mod Lookups
pub mod Extents
pub mod Written
