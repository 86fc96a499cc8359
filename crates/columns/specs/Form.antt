-- The form of a case's body: columns, one after the other, each taken at a cursor.
--   number_at    the number in some bytes from a place on
--   elements    so many numbers from a place on
--   lost        the cursor past every body
--   fits        whether the column that is asked for stands at the cursor
--   span        where a column lies
--   span_at      the column at a cursor
--   Taken       the elements of a column, and the cursor behind it
--   taken_at     what is taken where a column lies
--   column_at    what is taken at a cursor
-- Assumes nothing.
use Rattle.std.specs.Prelude.{ℕ, zero, suc, ◌+◌, ◌*◌, Bool, cond, ◌&&◌, List, [], ◌∷◌, leb, eqb, length, get_or}
use Rattle.columns.specs.declared.Span.{Span}

-- The number in w bytes from a place on, the highest first; 0 for no bytes. A byte past the end counts as 0.
unfoldable pub number_at : List ℕ → ℕ → ℕ → ℕ
number_at bytes zero at = 0
number_at bytes (suc w) at = number_at bytes w at * 256 + get_or bytes (at + w) 0

-- n numbers of w bytes each, one after the other, from a place on; none for n = 0.
unfoldable pub elements : List ℕ → ℕ → ℕ → ℕ → List ℕ
elements bytes w at zero = []
elements bytes w at (suc n) = number_at bytes w at ∷ elements bytes w (at + w) n

-- The cursor past every body: no slice is so long.
abbrev pub lost : ℕ
lost = 18446744073709551615

-- "column = count : u32, width : u8, count x width bytes": whether such a column of width w, with at most `most` elements, stands
-- whole at the cursor. A cursor past the body has none.
unfoldable pub fits : List ℕ → ℕ → ℕ → ℕ → Bool
fits body w most at =
    leb (at + 5) (length body)
    && (eqb (get_or body (at + 4) 0) w
    && (leb (at + 5 + number_at body 4 at * w) (length body) && leb (number_at body 4 at) most))

-- Where a column lies: the place of its first element, how many there are, the cursor behind them.
abbrev pub span : ℕ → ℕ → ℕ → Span
span from count next = record { from = from; count = count; next = next }

-- The column at a cursor; where the bytes are of another form, one of no elements that loses the cursor.
unfoldable pub span_at : List ℕ → ℕ → ℕ → ℕ → Span
span_at body w most at = cond (fits body w most at) (span (at + 5) (number_at body 4 at) (at + 5 + number_at body 4 at * w)) (span 0 0 lost)

-- The elements of a column, and the cursor behind it.
pub data Taken : Type 0 where
  Took : (elements : List ℕ) → (next : ℕ) → Taken

-- What is taken where a column lies.
abbrev pub taken_at : List ℕ → ℕ → Span → Taken
taken_at body w s = Took (elements body w s.from s.count) s.next

-- What is taken at a cursor: the column there; none, and the cursor is lost, where the bytes are of another form.
unfoldable pub column_at : List ℕ → ℕ → ℕ → ℕ → Taken
column_at body w most at = taken_at body w (span_at body w most at)
