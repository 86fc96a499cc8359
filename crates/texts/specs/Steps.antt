-- The state of a reader that has read a part of a text, and its columns: how each byte changes them, and what they come to at the end of the text.
-- What this says of a whole text is the definition by lines (`whole` of Form; proofs/TextLaws): a user reads that.
--   up                      one more line
--   Held                    a state and the columns
--   after, ended            a line end
--   in_line, stepped         another byte, any byte
--   read_on                  some bytes
--   finished, told_by, closed_by, closed   the end of the text
-- Assumes nothing.
use Rattle.std.specs.Prelude.{ℕ, ◌+◌, cond, ◌&&◌, List, [], ◌∷◌, ltb, eqb, set, Option, None, Some}
use Rattle.entries.specs.declared.Entry.{Entry}
use Rattle.entries.specs.declared.State.{State}
use Rattle.entries.specs.Steps.{start, other, within, said_by}
use Rattle.texts.specs.Form.{last, Closed, Close}

-- One more line; the largest number stays.
abbrev pub up : ℕ → ℕ
up n = cond (ltb n last) (n + 1) n

-- A state, and the columns lent: codes, widths, types, categories.
pub data Held : Type 0 where
  Hold : State → (codes widths types categories : List ℕ) → Held

-- A line that says an entry: it is stored at its place n, where a column has that place, and the next line begins. A line of other form: so is the text.
abbrev pub after : Option Entry → ℕ → List ℕ → List ℕ → List ℕ → List ℕ → Held
after None n c w t g = Hold other c w t g
after (Some e) n c w t g = Hold (start (up n)) (set c n e.code) (set w n e.width) (set t n e.kind) (set g n e.category)

-- A line end.
unfoldable pub ended : Held → Held
ended (Hold s c w t g) = after (said_by s) s.lines c w t g

-- Another byte leaves the columns as they are.
abbrev pub in_line : Held → ℕ → Held
in_line (Hold s c w t g) b = Hold (within s b) c w t g

-- Any byte.
unfoldable pub stepped : Held → ℕ → Held
stepped h b = cond (eqb b 10) (ended h) (in_line h b)

-- Some bytes, one after the other; no bytes change nothing.
abbrev pub read_on : Held → List ℕ → Held
read_on h [] = h
read_on h (b ∷ bs) = read_on (stepped h b) bs

-- The end of the text closes a line that has begun, as a line end would; where none has begun it closes none.
unfoldable pub finished : Held → Held
finished (Hold s c w t g) = cond (eqb s.field 0 && eqb s.digits 0) (Hold s c w t g) (ended (Hold s c w t g))

-- What a state says at the end of the text.
abbrev pub told_by : State → Option ℕ
told_by s = cond (eqb s.field 3) None (Some s.lines)

-- What a state and its columns come to.
abbrev pub closed_by : Held → Closed
closed_by (Hold s c w t g) = Close (told_by s) c w t g

-- What they come to at the end of the text.
abbrev pub closed : Held → Closed
closed h = closed_by (finished h)
