-- What the contracts of `synthesis` cite, and those of the plan.
-- Assumes nothing.
pub mod Rules
pub mod Made
pub mod Lent
