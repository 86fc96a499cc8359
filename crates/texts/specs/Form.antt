-- The text form of document 01's program `joinline`: lines of the form of crate `entries`. "The last line end may be absent."
--   lines                       the parts of a text between line ends
--   says, readable              whether lines have the form
--   leading, entries            what they say
--   last                        the largest number that lines are counted to
--   told, Closed, whole         what a text comes to, and the columns that its entries are held in
--   columns_lent                 what is made of these columns, as they are lent to a call and as they come back
--   codes_of, widths_of, kinds_of, categories_of   these columns
-- Assumes nothing.
use Rattle.std.specs.Prelude.{ℕ, min, Bool, true, false, cond, ◌&&◌, List, [], ◌∷◌, map, eqb, length, Option, None, Some}
use Rattle.std.proofs.lemmas.List.Edits.{sets}
use denote.Triple.Both.{Both}
use Rattle.laws.specs.Lent.{BorrowedMut}
use Rattle.entries.specs.declared.Entry.{Entry}
use Rattle.entries.specs.Form.{before, fields, line_of}

-- The lines of a text, without their line ends (10). A line end at the very end closes the last line and begins none, and a text
-- of no bytes has no lines; a lone line end closes a line of no bytes.
abbrev pub lines : List ℕ → List (List ℕ)
lines [] = []
lines (b ∷ bs) = cond (eqb b 10) ([] ∷ lines bs) (before b (lines bs))

-- Whether a line says an entry.
abbrev pub says : Option Entry → Bool
says None = false
says (Some e) = true

-- Every line says an entry; of no lines this holds.
abbrev pub readable : List (List ℕ) → Bool
readable [] = true
readable (l ∷ ls) = says (line_of (fields l)) && readable ls

-- An entry before those of the lines behind it; a line of other form has none, and those behind it count no more.
abbrev pub leading : Option Entry → List Entry → List Entry
leading None es = []
leading (Some e) es = e ∷ es

-- The entries of the lines that stand before the first of other form; all, where there is none.
abbrev pub entries : List (List ℕ) → List Entry
entries [] = []
entries (l ∷ ls) = leading (line_of (fields l)) (entries ls)

-- The largest number that lines are counted to.
abbrev pub last : ℕ
last = 18446744073709551615

-- What a text comes to: unreadable if any line is of other form, else how many lines there are.
abbrev pub told : List ℕ → Option ℕ
told text = cond (readable (lines text)) (Some (min (length (lines text)) last)) None

-- The columns of entries: codes, with how many digits each was typed, types, categories.
abbrev pub codes_of : List Entry → List ℕ
codes_of es = map (λ (e : Entry). e.code) es

abbrev pub widths_of : List Entry → List ℕ
widths_of es = map (λ (e : Entry). e.width) es

abbrev pub kinds_of : List Entry → List ℕ
kinds_of es = map (λ (e : Entry). e.kind) es

abbrev pub categories_of : List Entry → List ℕ
categories_of es = map (λ (e : Entry). e.category) es

-- What a text comes to, and the columns afterwards: codes, widths, types, categories.
pub data Closed : Type 0 where
  Close : Option ℕ → (codes widths types categories : List ℕ) → Closed

-- What `f` makes of the columns: of those lent, `.entry`, and of those that come back, `.exit`.
abbrev pub columns_lent : {A : Type 0} → (List ℕ → List ℕ → List ℕ → List ℕ → A) → BorrowedMut ℕ → BorrowedMut ℕ → BorrowedMut ℕ → BorrowedMut ℕ → Both A A
columns_lent f codes widths types categories =
    record {
      entry = f codes.entry.now widths.entry.now types.entry.now categories.entry.now;
      exit = f codes.exit.now widths.exit.now types.exit.now categories.exit.now;
    }

-- What a whole text comes to, read into columns: its entries stand in them from the start. An entry past the end of a column is
-- not held in it, and what lies behind the last entry stays.
unfoldable pub whole : List ℕ → List ℕ → List ℕ → List ℕ → List ℕ → Closed
whole text codes widths types categories =
    let es : List Entry = entries (lines text) in
    Close (told text) (sets codes 0 (codes_of es)) (sets widths 0 (widths_of es))
    (sets types 0 (kinds_of es))
    (sets categories 0 (categories_of es))
