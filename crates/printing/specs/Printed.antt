-- What document 01's program `joinline` prints of a joined line: the heading, and a row for each letter. "Fields: place from 0, code as read, action name."
--   glyph, numeral    a digit, digits
--   places, decimal   how many digits a place has; the place in decimal
--   names, name_of    the names of the actions
--   row, rows         a letter's row, and those of a line
--   heading, printed  the first row, and all of them
--   unreadable_text, refused_word_lem, refused_text   what is printed where there is no joined line
-- Assumes nothing.
use Rattle.std.specs.Prelude.{ℕ, zero, suc, ◌+◌, ◌/◌, ◌%◌, cond, List, [], ◌∷◌, ◌++◌, ltb, get_or}

-- The byte of a digit below 16: `0` to `9`, then `A` to `F`.
abbrev pub glyph : ℕ → ℕ
glyph d = cond (ltb d 10) (48 + d) (55 + d)

-- The last w digits of a number in a base, the highest first; none for w = 0. Zeros stand in front where it has fewer.
abbrev pub numeral : ℕ → ℕ → ℕ → List ℕ
numeral base zero n = []
numeral base (suc w) n = numeral base w (n / base) ++ (glyph (n % base) ∷ [])

-- How many decimal digits a number below 100,000 has: 1 for 0. No line has so many records.
unfoldable pub places : ℕ → ℕ
places n = cond (ltb n 10) 1 (cond (ltb n 100) 2 (cond (ltb n 1000) 3 (cond (ltb n 10000) 4 5)))

-- A number below 100,000 in decimal, without zeros in front; of a larger one the last five digits.
abbrev pub decimal : ℕ → List ℕ
decimal n = numeral 10 (places n) n

-- The names of the ten actions in the order of their numbers: isol, fina, fin2, fin3, medi, med2, init, none, fixed, repeating.
unfoldable pub names : List (List ℕ)
names =
    (105 ∷ 115 ∷ 111 ∷ 108 ∷ [])
    ∷ ((102 ∷ 105 ∷ 110 ∷ 97 ∷ [])
    ∷ ((102 ∷ 105 ∷ 110 ∷ 50 ∷ [])
    ∷ ((102 ∷ 105 ∷ 110 ∷ 51 ∷ [])
    ∷ ((109 ∷ 101 ∷ 100 ∷ 105 ∷ [])
    ∷ ((109 ∷ 101 ∷ 100 ∷ 50 ∷ [])
    ∷ ((105 ∷ 110 ∷ 105 ∷ 116 ∷ [])
    ∷ ((110 ∷ 111 ∷ 110 ∷ 101 ∷ [])
    ∷ ((102 ∷ 105 ∷ 120 ∷ 101 ∷ 100 ∷ []) ∷ ((114 ∷ 101 ∷ 112 ∷ 101 ∷ 97 ∷ 116 ∷ 105 ∷ 110 ∷ 103 ∷ []) ∷ [])))))))))

-- The name of an action; none for a number that is no action's.
abbrev pub name_of : ℕ → List ℕ
name_of action = get_or names action []

-- A letter's row: its place, the code with as many digits as it was typed with, the name of its action; blanks (32) between, a line end (10) behind.
unfoldable pub row : ℕ → ℕ → ℕ → ℕ → List ℕ
row place code width action = decimal place ++ (32 ∷ (numeral 16 width code ++ (32 ∷ (name_of action ++ (10 ∷ [])))))

-- The rows of the letters from a place on, as many as every column has.
abbrev pub rows : ℕ → List ℕ → List ℕ → List ℕ → List ℕ
rows place (c ∷ cs) (w ∷ ws) (x ∷ xs) = row place c w x ++ rows (place + 1) cs ws xs
rows place [] ws xs = []
rows place (c ∷ cs) [] xs = []
rows place (c ∷ cs) (w ∷ ws) [] = []

-- `place code form` and a line end.
abbrev pub heading : List ℕ
heading = 112 ∷ 108 ∷ 97 ∷ 99 ∷ 101 ∷ 32 ∷ 99 ∷ 111 ∷ 100 ∷ 101 ∷ 32 ∷ 102 ∷ 111 ∷ 114 ∷ 109 ∷ 10 ∷ []

-- All that is printed of a joined line: columns of codes, of how many digits each was typed with, and of actions.
unfoldable pub printed : List ℕ → List ℕ → List ℕ → List ℕ
printed codes widths actions = heading ++ rows 0 codes widths actions

-- `unreadable` and a line end: all that is printed of a text with a line of other form.
abbrev pub unreadable_text : List ℕ
unreadable_text = 117 ∷ 110 ∷ 114 ∷ 101 ∷ 97 ∷ 100 ∷ 97 ∷ 98 ∷ 108 ∷ 101 ∷ 10 ∷ []

-- `refused` and a blank.
abbrev pub refused_word_lem : List ℕ
refused_word_lem = 114 ∷ 101 ∷ 102 ∷ 117 ∷ 115 ∷ 101 ∷ 100 ∷ 32 ∷ []

-- All that is printed of a line that is refused: the word, the number of refusal and a line end.
unfoldable pub refused_text : ℕ → List ℕ
refused_text number = refused_word_lem ++ (decimal number ++ (10 ∷ []))
