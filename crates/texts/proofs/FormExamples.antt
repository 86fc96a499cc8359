-- The form on texts that are small enough to read.
-- Assumes nothing.
use Rattle.std.specs.Prelude.{Option, None, Some}
use Prim.Native.Nat.{ℕ}
use mathlib.Core.Bool.{true, false}
use mathlib.Core.List.{List, [], ◌∷◌, ◌++◌}
use mathlib.Core.Path.{◌≡◌, refl}
use Rattle.entries.specs.Form.{digit, is_code, is_number}
use Rattle.texts.specs.Form.{lines, told, Close, whole}

-- `0628 3 7`, `064E 6 12`
first : List ℕ
first = 48 ∷ 54 ∷ 50 ∷ 56 ∷ 32 ∷ 51 ∷ 32 ∷ 55 ∷ []

second : List ℕ
second = 48 ∷ 54 ∷ 52 ∷ 69 ∷ 32 ∷ 54 ∷ 32 ∷ 49 ∷ 50 ∷ []

-- The last line end may be absent; it may also be there.
two-lines : lines (first ++ (10 ∷ second)) ≡ first ∷ (second ∷ [])
unfolding first second
two-lines = refl

two-ended : lines (first ++ (10 ∷ (second ++ (10 ∷ [])))) ≡ first ∷ (second ∷ [])
unfolding first second
two-ended = refl

-- Their entries stand in the columns, as far as those reach.
both-held : whole (first ++ (10 ∷ second)) (1 ∷ 1 ∷ 1 ∷ []) (1 ∷ 1 ∷ []) (1 ∷ []) [] ≡ Close (Some 2) (1576 ∷ 1614 ∷ 1 ∷ []) (4 ∷ 4 ∷ []) (3 ∷ []) []
unfolding first second digit is_code is_number whole
both-held = refl

-- A blank last line, a lone line end and two blanks together are of other form.
blank-last : told (first ++ (10 ∷ (10 ∷ []))) ≡ None
unfolding first digit is_code is_number
blank-last = refl

lone_end : told (10 ∷ []) ≡ None
lone_end = refl

two_blanks : told (48 ∷ 54 ∷ 50 ∷ 56 ∷ 32 ∷ 32 ∷ 51 ∷ 32 ∷ 55 ∷ []) ≡ None
two_blanks = refl

-- A text of no bytes has no lines.
no_lines : told [] ≡ Some 0
no_lines = refl

-- `0` has no leading zero, `007` has; `1000` has a digit too many; a small `e` is no digit.
zero_alone : is_number (48 ∷ []) ≡ true
unfolding digit is_number
zero_alone = refl

zeros_before : is_number (48 ∷ 48 ∷ 55 ∷ []) ≡ false
unfolding digit is_number
zeros_before = refl

four-digits : is_number (49 ∷ 48 ∷ 48 ∷ 48 ∷ []) ≡ false
unfolding digit is_number
four-digits = refl

six_zeros : is_code (48 ∷ 48 ∷ 48 ∷ 48 ∷ 48 ∷ 48 ∷ []) ≡ true
unfolding digit is_code
six_zeros = refl

small-letter : is_code (48 ∷ 54 ∷ 52 ∷ 101 ∷ []) ≡ false
unfolding digit is_code
small-letter = refl
