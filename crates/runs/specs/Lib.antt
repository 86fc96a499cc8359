-- What the contracts of `runs` cite.
-- Assumes nothing.
pub mod Records
pub mod Runs
pub mod Stretched
pub mod Measured
