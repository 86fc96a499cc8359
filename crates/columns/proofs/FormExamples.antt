-- The form on bodies that are small enough to read.
-- Assumes nothing.
use mathlib.Core.List.{List, [], ◌∷◌}
use mathlib.Core.Path.{◌≡◌, refl}
use Prim.Native.Nat.{ℕ}
use Rattle.columns.specs.Form.{number_at, elements, lost, fits, span_at, Took, column_at}

-- Two numbers of two bytes, 258 and 772, and a column of no bytes behind them.
body : List ℕ
body = 0 ∷ 0 ∷ 0 ∷ 2 ∷ 2 ∷ 1 ∷ 2 ∷ 3 ∷ 4 ∷ 0 ∷ 0 ∷ 0 ∷ 0 ∷ 1 ∷ []

whole : column_at body 2 2 0 ≡ Took (258 ∷ 772 ∷ []) 9
unfolding body number_at elements fits span_at column_at
whole = refl

empty : column_at body 1 0 9 ≡ Took [] 14
unfolding body number_at elements fits span_at column_at
empty = refl

too_many : column_at body 2 1 0 ≡ Took [] lost
unfolding body number_at elements fits span_at column_at
too_many = refl

other_width : column_at body 4 2 0 ≡ Took [] lost
unfolding body number_at elements fits span_at column_at
other_width = refl

cut_short : column_at (0 ∷ 0 ∷ 0 ∷ 1 ∷ 2 ∷ 7 ∷ []) 2 9 0 ≡ Took [] lost
unfolding number_at elements fits span_at column_at
cut_short = refl

at_the_end : column_at body 1 9 14 ≡ Took [] lost
unfolding body number_at elements fits span_at column_at
at_the_end = refl
