-- The laws of `drafts`.
-- Assumes nothing.
pub mod EntryLaws
pub mod DraftLaws
pub mod RoomLaws
