-- Columns that stand for one thing: `flag` whether a column is a yes-or-no; `narrowed` a number as such a column has it.
-- Assumes nothing.
use Rattle.std.specs.Prelude.{ℕ, Bool, ◌&&◌, cond, List, ltb, eqb, length, get_or}

-- "A yes-or-no is a column of one byte", 0 or 1; no other column is one.
abbrev pub flag : List ℕ → Bool
flag column = eqb (length column) 1 && ltb (get_or column 0 0) 2

-- A place or a length in 32 bits; what is past them all is the last.
abbrev pub narrowed : ℕ → ℕ
narrowed x = cond (ltb x 4294967295) x 4294967295
