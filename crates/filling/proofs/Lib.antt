-- The laws of `filling`.
-- Assumes nothing.
pub mod RuleLaws
pub mod FillLaws
pub mod SetsLaws
