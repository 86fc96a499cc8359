-- What the contracts of `marks` cite; and what UTR 53 says, for the promises.
-- Assumes nothing.
pub mod Modifiers
pub mod Passes
pub mod Reordered
pub mod Utr53
