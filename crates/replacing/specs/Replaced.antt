-- Replacing a letter of a held line (document 01, "Replacing a letter"): `Request`, `request_of`, `asked` what is asked for; `changed` the line with the new letter; `replaced_line` that line with
-- the records joined afresh that it touches; `strange_request`, `outside`, `replace_rows`, `replace_refusal` when replacing is refused, and with which number;
-- `replace_after`, `Replacing` what the call answers and leaves, of every input.
-- Assumes nothing.
use Rattle.std.specs.Prelude.{◌≡◌, Bool, not, ◌&&◌, ◌||◌, List, [], ◌∷◌, ℕ, leb, ltb, length, set}
use Rattle.laws.specs.Rows.{Row, Given, first}
use Rattle.refusals.specs.Numbers.{said, Verdict}
use Rattle.refusals.specs.Columns.{at_most}
use Rattle.refusals.specs.Left.{Left, After, leaves}
use Rattle.letters.specs.Types.{X}
use Rattle.letters.specs.Categories.{Zs}
use Rattle.letters.specs.Actions.{repeating}
use Rattle.lines.specs.declared.Frame.{Frame}
use Rattle.lines.specs.Held.{Setting, Line, letters_of}
use Rattle.lines.specs.Joined.{frame_of, even_line_lem, uneven, too_long, strange}
use Rattle.renewing.specs.Renewed.{touched, renewed_line}

-- "The call takes a place, code, type and category"
pub record Request : Type 0 where
  pub place : ℕ
  pub code : ℕ
  pub type : ℕ
  pub category : ℕ

abbrev pub request_of : ℕ → ℕ → ℕ → ℕ → Request
request_of place code type category = record { place = place; code = code; type = type; category = category }

-- the same from the struct that is handed over
abbrev pub asked : Rattle.replacing.specs.declared.Request.Request → Request
asked q = request_of q.place q.code.0 q.joining_type.0 q.category.0

-- "Those three columns change at the place"
abbrev pub changed : Request → Line → Line
changed r l =
    record {
      codes = set l.codes r.place r.code;
      letters = letters_of (set l.letters.types r.place r.type) (set l.letters.categories r.place r.category);
      base = l.base;
      actions = l.actions;
      masks = l.masks;
    }

-- the records that it touches are joined afresh
abbrev pub replaced_line : Frame → Request → Line → Line
replaced_line f r l = let new = changed r l in renewed_line f (touched f new r.place) new

-- an old action above 9; the new letter's type above 7 or its category above 29
abbrev pub strange_request : Request → Line → Bool
strange_request r l = not (at_most repeating l.actions && (leb r.type X && leb r.category Zs))

-- "a place at or past the length"
abbrev pub outside : Request → Line → Bool
outside r l = not (ltb r.place (length l.letters.types))

-- the rows of document 01's table that replacing uses, and the number that it is refused with, 0 if it is not
abbrev pub replace_rows : Setting → Request → Line → List Row
replace_rows s r l =
    Given 1 (uneven (even_line_lem l) s.pre s.post) ∷
    Given 2 (too_long l.letters s.pre s.post) ∷
    Given 3 (strange l.letters s.pre s.post || strange_request r l) ∷
    Given 4 (outside r l) ∷
    []

unfoldable pub replace_refusal : Setting → Request → Line → ℕ
replace_refusal s r l = first (replace_rows s r l)

-- the call: a refusal gives its number and leaves the line as it was
abbrev pub replace_after : Setting → Request → Line → Left Line
replace_after s r l = leaves (replace_refusal s r l) l (replaced_line (frame_of s) r l)

-- the statement of `replace_letter`: in the setting s, asked for r on the line l, it may answer v and leave the line m
abbrev pub Replacing : Setting → Request → Line → Verdict → Line → Type 0
Replacing s r l v m = After (said v) m ≡ replace_after s r l
