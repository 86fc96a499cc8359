-- Laws of `thawtrundle`.
-- Assumes nothing.
mod ToldLaws
