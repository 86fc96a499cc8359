-- Each promise, proved.
-- Assumes nothing.
pub mod ChangeLaws
pub mod StandLaws
pub mod FollowLaws
pub mod BoundLaws
pub mod WritingHolds
pub mod SaidLaws
pub mod ReadingHolds
pub mod SettledHolds
pub mod WrittenOut
