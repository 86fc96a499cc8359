-- What the contracts of `thawtrundle_codes` cite beside the definitions of the calls themselves.
-- Assumes nothing.
pub mod Asked
