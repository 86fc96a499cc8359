-- What the contracts of `windows` cite, and those of the plan.
-- Assumes nothing.
pub mod Tables
pub mod Windows
