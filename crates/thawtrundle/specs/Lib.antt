-- What the contracts of `thawtrundle` cite beside the definitions of the calls themselves.
-- Assumes nothing.
pub mod Told
