-- The laws that the proofs of `answers` share: what a line comes to, what a whole text does, how long that is, and that codes are printed as typed.
-- Assumes nothing.
pub mod AnswerLaws
pub mod FitLaws
pub mod TypedLaws
