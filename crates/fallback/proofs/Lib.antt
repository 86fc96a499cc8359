-- The laws of `fallback`.
-- Assumes nothing.
pub mod SettleLaws
pub mod UnicodeLaws
