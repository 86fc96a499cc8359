-- Comparing, on a body that is small enough to read.
-- Assumes nothing.
use Prim.Native.Nat.{ℕ}
use mathlib.Core.Bool.{true, false}
use mathlib.Core.List.{List, [], ◌∷◌}
use mathlib.Core.Path.{◌≡◌, refl}
use Rattle.columns.specs.Form.{number_at, elements, lost, fits, span_at, column_at}
use Rattle.cases.specs.Comparing.{same, Compare, compared_at}

-- Two numbers of two bytes, 258 and 772.
body : List ℕ
body = 0 ∷ 0 ∷ 0 ∷ 2 ∷ 2 ∷ 1 ∷ 2 ∷ 3 ∷ 4 ∷ []

agrees : compared_at body 2 (258 ∷ 772 ∷ []) 0 ≡ Compare true 9
unfolding body number_at elements fits span_at column_at same
agrees = refl

other_element : compared_at body 2 (258 ∷ 773 ∷ []) 0 ≡ Compare false 9
unfolding body number_at elements fits span_at column_at same
other_element = refl

one_fewer : compared_at body 2 (258 ∷ []) 0 ≡ Compare false 9
unfolding body number_at elements fits span_at column_at same
one_fewer = refl

other_width : compared_at body 1 [] 0 ≡ Compare true lost
unfolding body number_at elements fits span_at column_at same
other_width = refl
