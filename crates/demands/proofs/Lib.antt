-- Each promise, proved.
-- Assumes nothing.
pub mod CodesHold
pub mod ExamplesHold
pub mod JoiningHolds
pub mod MarksHold
pub mod NamedLaws
pub mod NeighbourLaws
pub mod ProgramHolds
pub mod PartLaws
pub mod RangeLaws
pub mod RecordingHolds
pub mod ReplacingHolds
pub mod StretchingHolds
pub mod WholeLaws
pub mod WorkedLaws
pub mod WrittenOut
