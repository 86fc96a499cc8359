-- The laws of `ligatures`.
-- Assumes nothing.
pub mod PlaceLaws
pub mod ApartLaws
pub mod TurnLaws
pub mod SurveyLaws
pub mod LookupLaws
pub mod CallLaws
