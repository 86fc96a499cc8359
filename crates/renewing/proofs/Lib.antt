-- The modules that belong to no one function.
-- Assumes nothing.
pub mod FreshLaws
pub mod HeldLaws
pub mod RenewLaws
pub mod SeenLaws
