-- Each promise, proved.
-- Assumes nothing.
pub mod OriginLaws
pub mod PlanLaws
pub mod PlanningHolds
pub mod EntryLaws
pub mod LookupsHold
pub mod ByRowsLaws
pub mod ByRowsHold
pub mod WrittenOut
