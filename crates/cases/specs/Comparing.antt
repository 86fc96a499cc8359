-- A column, held against what a call gave.
--   same        whether two lists are the same
--   Compared    whether a column is what was got, and the cursor behind it
--   against     what was taken, held against what was got
--   compared_at  what comparing at a cursor gives
-- Assumes nothing.
use Rattle.std.specs.Prelude.{ℕ, Bool, true, false, ◌&&◌, List, [], ◌∷◌, eqb, length}
use Rattle.columns.specs.Form.{Taken, Took, column_at}

-- Whether two lists are the same, in number and in each element.
unfoldable pub same : List ℕ → List ℕ → Bool
same [] [] = true
same [] (y ∷ ys) = false
same (x ∷ xs) [] = false
same (x ∷ xs) (y ∷ ys) = eqb x y && same xs ys

-- Whether a column is what was got, and the cursor behind it.
pub data Compared : Type 0 where
  Compare : (agrees : Bool) → (next : ℕ) → Compared

-- What was taken, held against what was got.
abbrev pub against : List ℕ → Taken → Compared
against got (Took elements next) = Compare (same elements got) next

-- What comparing at a cursor gives: the column there may have any number of elements (a body has a byte at least for each), and
-- where the bytes are of another form it counts as empty.
abbrev pub compared_at : List ℕ → ℕ → List ℕ → ℕ → Compared
compared_at body w got at = against got (column_at body w (length body) at)
