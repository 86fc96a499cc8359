-- What the contracts of `renewing` cite.
-- Assumes nothing.
pub mod Renewed
pub mod Renewable
pub mod Held
