-- What the contracts of `drafts` cite, and those of the plan.
-- Assumes nothing.
pub mod Features
pub mod Entries
pub mod Drafted
pub mod Lent
