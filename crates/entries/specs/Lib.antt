-- What the contracts of `entries` cite: the form of a line, and the state of a reader that has read a part of one.
-- Assumes nothing.
pub mod Form
pub mod Steps
