-- The state of a reader within a line: how each byte but a line end changes it, and what it says at the end of the line. What this says of
-- a whole line is `line_of` of Form (proofs/LineLaws): a user reads that.
--   base, most              the digits of each field
--   start, other            the state before a line, and that of a text with a line of other form
--   leads, follows          a zero that no digit may follow; whether a digit may follow
--   grown, typed            a digit
--   before_type, before_category, parted   a blank
--   within, read_in          any byte but a line end; several
--   entry_of, said_by         what was read, at the end of the line
-- Assumes nothing.
use Rattle.std.specs.Prelude.{ℕ, ◌+◌, ◌*◌, min, Bool, cond, not, ◌&&◌, List, [], ◌∷◌, leb, ltb, eqb, Option, None, Some}
use Rattle.entries.specs.declared.Entry.{Entry}
use Rattle.entries.specs.declared.State.{State}
use Rattle.entries.specs.Form.{digit}

-- A field's base: 16 for the code (field 0), 10 for type (1) and category (2).
abbrev pub base : ℕ → ℕ
base field = cond (eqb field 0) 16 10

-- The most digits of a field.
abbrev pub most : ℕ → ℕ
most field = cond (eqb field 0) 6 3

-- Before a line, with n lines behind it.
abbrev pub start : ℕ → State
start n = record { field = 0; digits = 0; value = 0; code = 0; width = 0; kind = 0; lines = n }

-- Some line is of other form. What follows does not change that.
abbrev pub other : State
other = record { field = 3; digits = 0; value = 0; code = 0; width = 0; kind = 0; lines = 0 }

-- A single zero in front of type or category: no digit may follow.
abbrev pub leads : ℕ → ℕ → ℕ → Bool
leads field digits value = not (eqb field 0) && (eqb digits 1 && eqb value 0)

-- A digit d may follow (16 is none). That the value is small is so wherever the digits are few, and says that it does not wrap.
unfoldable pub follows : State → ℕ → Bool
follows s d =
    ltb s.field 3
    && (ltb d (base s.field)
    && (ltb s.digits (most s.field) && (ltb s.value 1048576 && not (leads s.field s.digits s.value))))

-- With a digit more.
abbrev pub grown : State → ℕ → State
grown s d =
    record {
      field = s.field;
      digits = s.digits + 1;
      value = s.value * base s.field + d;
      code = s.code;
      width = s.width;
      kind = s.kind;
      lines = s.lines;
    }

-- A digit, or a byte that is none.
unfoldable pub typed : State → ℕ → State
typed s d = cond (follows s d) (grown s d) other

-- Before the type: the code is read.
abbrev pub before_type : State → State
before_type s = record { field = 1; digits = 0; value = 0; code = s.value; width = s.digits; kind = 0; lines = s.lines }

-- Before the category: the type is read.
abbrev pub before_category : State → State
before_category s =
    record { field = 2; digits = 0; value = 0; code = s.code; width = s.width; kind = min s.value 255; lines = s.lines }

-- A blank: the next field begins, if the one before it has the digits that it needs.
unfoldable pub parted : State → State
parted s = cond (eqb s.field 0 && leb 4 s.digits) (before_type s) (cond (eqb s.field 1 && leb 1 s.digits) (before_category s) other)

-- Any byte but a line end.
unfoldable pub within : State → ℕ → State
within s b = cond (eqb b 32) (parted s) (typed s (digit b))

-- Some bytes, one after the other; no bytes change nothing.
abbrev pub read_in : State → List ℕ → State
read_in s [] = s
read_in s (b ∷ bs) = read_in (within s b) bs

-- What was read, where the line ends behind the category.
abbrev pub entry_of : State → Entry
entry_of s = record { code = s.code; width = s.width; kind = s.kind; category = min s.value 255 }

-- What a line says that ends here: an entry, if the category has a digit.
unfoldable pub said_by : State → Option Entry
said_by s = cond (eqb s.field 2 && leb 1 s.digits) (Some (entry_of s)) None
