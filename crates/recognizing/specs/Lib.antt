-- What the contracts of `recognizing` cite.
-- Assumes nothing.
pub mod Recognized
