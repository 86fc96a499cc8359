-- What the contracts of `texts` cite: the form of a text, and the state of a reader that has read a part of one.
-- Assumes nothing.
pub mod Form
pub mod Steps
