-- The laws of `grouping`.
-- Assumes nothing.
pub mod StartLaws
pub mod RuleLaws
pub mod SetsLaws
pub mod GoingLaws
