-- The laws of `scanning`: scans and what they take; the parts of both kinds of lookup; single lookups; rules, sets and limits; ligature lookups; that acceptance is exact; examples.
-- Assumes nothing.
pub mod TakeLaws
pub mod HeadLaws
pub mod SingleLaws
pub mod GroupLaws
pub mod SizeLaws
pub mod RuleLaws
pub mod PlaceLaws
pub mod LigatureLaws
pub mod KindLaws
pub mod ExactLaws
pub mod ScanExamples
