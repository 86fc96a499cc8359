-- What the contracts of `answers` cite: what the program `joinline` prints of a text.
-- Assumes nothing.
pub mod Output
