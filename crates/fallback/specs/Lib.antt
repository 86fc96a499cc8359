-- What the contracts of the plan cite.
-- Assumes nothing.
pub mod Plan
pub mod Planned
pub mod Switch
pub mod Lent
