-- Bytes written to lent memory, one after the other from a place on, as far as they fit.
--   Written           the memory, and the place behind what was written
--   wrote, writes     with a byte more, with some
--   filled            the memory once a whole text is written from its start
-- Assumes nothing.
use Rattle.std.specs.Prelude.{ℕ, ◌+◌, min, cond, List, [], ◌∷◌, ltb, length, set}
use Rattle.std.proofs.lemmas.List.Edits.{sets}

-- The memory, and the place behind what was written.
pub data Written : Type 0 where
  Wrote : (out : List ℕ) → (at : ℕ) → Written

-- A byte more; past the end nothing is written, and the place stays.
unfoldable pub wrote : Written → ℕ → Written
wrote (Wrote out at) b = Wrote (set out at b) (cond (ltb at (length out)) (at + 1) at)

-- Some bytes, one after the other; no bytes change nothing.
abbrev pub writes : Written → List ℕ → Written
writes x [] = x
writes x (b ∷ bs) = writes (wrote x b) bs

-- A text from the start of the memory, as much of it as fits, and how much that is. What lies behind it stays.
abbrev pub filled : List ℕ → List ℕ → Written
filled out text = Wrote (sets out 0 text) (min (length text) (length out))
