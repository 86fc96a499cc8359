-- The form of a line of document 01's program `joinline`: "hex code (4 to 6 capital digits), type and category in decimal (1 to 3 digits, no
-- leading zeros), one blank between."
--   before, fields              the parts of a line between blanks
--   digit, all_digits            digits by their bytes
--   value_from, value            the number that digits write
--   is_code, bare, is_number      the form of a field
--   held                        a type or category as a byte holds it
--   line_of                      what a line says
-- Assumes nothing.
use Rattle.std.specs.Prelude.{ℕ, ◌+◌, ◌-◌, ◌*◌, min, Bool, true, cond, not, ◌&&◌, List, [], ◌∷◌, leb, ltb, eqb, length, Option, None, Some}
use Rattle.entries.specs.declared.Entry.{Entry}

-- A byte put before the first of some parts; where there is no part, it is one by itself.
abbrev pub before : ℕ → List (List ℕ) → List (List ℕ)
before b [] = (b ∷ []) ∷ []
before b (p ∷ ps) = (b ∷ p) ∷ ps

-- The fields of a line, which blanks (32) part: one more than it has blanks, so that two blanks together part a field of no bytes.
abbrev pub fields : List ℕ → List (List ℕ)
fields [] = [] ∷ []
fields (b ∷ bs) = cond (eqb b 32) ([] ∷ fields bs) (before b (fields bs))

-- The value of a byte as a capital hexadecimal digit, `0` to `9` and `A` to `F`; 16 for any other byte.
unfoldable pub digit : ℕ → ℕ
digit b = cond (leb 48 b && leb b 57) (b - 48) (cond (leb 65 b && leb b 70) (b - 55) 16)

-- Every byte is a digit of the base; of no bytes this holds.
abbrev pub all_digits : ℕ → List ℕ → Bool
all_digits base [] = true
all_digits base (b ∷ bs) = ltb (digit b) base && all_digits base bs

-- The number that digits write behind those of v; v itself for none.
abbrev pub value_from : ℕ → ℕ → List ℕ → ℕ
value_from base v [] = v
value_from base v (b ∷ bs) = value_from base (v * base + digit b) bs

-- The number that digits write, the highest first; 0 for none.
abbrev pub value : ℕ → List ℕ → ℕ
value base ds = value_from base 0 ds

-- "hex code (4 to 6 capital digits)": zeros may stand in front.
unfoldable pub is_code : List ℕ → Bool
is_code ds = leb 4 (length ds) && (leb (length ds) 6 && all_digits 16 ds)

-- "no leading zeros": several digits do not begin with 0; a single one may be 0.
abbrev pub bare : List ℕ → Bool
bare [] = true
bare (b ∷ []) = true
bare (b ∷ (c ∷ ds)) = not (eqb (digit b) 0)

-- "in decimal (1 to 3 digits, no leading zeros)".
unfoldable pub is_number : List ℕ → Bool
is_number ds = leb 1 (length ds) && (leb (length ds) 3 && (all_digits 10 ds && bare ds))

-- A type or category as columns of bytes hold it: 255 stands for every number above it too. Both are refused
-- with 3 (proofs/RangeLaws).
abbrev pub held : List ℕ → ℕ
held ds = min (value 10 ds) 255

-- What a line's fields say: three of the forms that document 01 gives, else nothing.
abbrev pub line_of : List (List ℕ) → Option Entry
line_of [] = None
line_of (c ∷ []) = None
line_of (c ∷ (t ∷ [])) = None
line_of (c ∷ (t ∷ (g ∷ []))) =
    cond (is_code c && (is_number t && is_number g)) (Some (record { code = value 16 c; width = length c; kind = held t; category = held g })) None
line_of (c ∷ (t ∷ (g ∷ (x ∷ xs)))) = None
