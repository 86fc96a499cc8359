-- The calls that write a lookup: `WriteOutcome`, `write_outcome` what is there afterwards; `write_rows`, `write_refusal` when writing is refused, and with which number; `Written`, `length_said` an answer, and the length that it says; `write_after`, `Writing` what a call answers and leaves, of every input.
-- Assumes nothing.
use Rattle.std.specs.Prelude.{◌≡◌, not, List, [], ◌∷◌, ◌++◌, ℕ, ◌*◌, eqb, ltb, length, drop, Result, Ok, Err}
use Rattle.laws.specs.Rows.{Row, Given, first}
use Rattle.refusals.specs.declared.Refusal.{Refusal}
use Rattle.refusals.specs.Numbers.{said}
use Rattle.refusals.specs.Left.{Left, After, leaves}
use Rattle.words.specs.Words.{bytes}
use Rattle.layouts.specs.Lookups.{Lookup, width, known, words_of, fits}

-- how many bytes were written, and the area afterwards
pub record WriteOutcome : Type 0 where
  pub count : ℕ
  pub area : List ℕ

abbrev pub write_outcome : ℕ → List ℕ → WriteOutcome
write_outcome count area = record { count = count; area = area }

-- the rows of document 01's table that writing uses, for an area of so many bytes
abbrev pub write_rows : Lookup → ℕ → List Row
write_rows l room =
    -- "flat components number N times the ligatures, N as given"
    Given 1 (not (eqb (length l.glyphs) (length l.substitutes * width l.kind))) ∷
    Given 3 (not (known l.kind)) ∷
    -- "a lookup offset or count above 65,535": glyphs and flags are lent as numbers of 16 bits
    Given 5 (not (fits (words_of l))) ∷
    Given 8 (ltb room (2 * length (words_of l))) ∷
    []

unfoldable pub write_refusal : Lookup → ℕ → ℕ
write_refusal l room = first (write_rows l room)

-- what a writer answers: how many bytes it wrote, or why it wrote none
abbrev pub Written : Type 0
Written = Result ℕ Refusal

-- the length that an answer says; a refusal says 0
abbrev pub length_said : Written → ℕ
length_said (Ok n) = n
length_said (Err k) = 0

-- a refusal leaves the area as it was; else the lookup's bytes are at its start, and the area past them is untouched
abbrev pub write_after : Lookup → List ℕ → Left WriteOutcome
write_after l area =
    leaves (write_refusal l (length area)) (write_outcome 0 area)
    (write_outcome (2 * length (words_of l)) (bytes (words_of l) ++ drop (2 * length (words_of l)) area))

-- the statement of a writer: asked for the lookup l with an area lent, it may answer r and leave the area `left`
abbrev pub Writing : Lookup → List ℕ → Written → List ℕ → Type 0
Writing l area r left = After (said r) (write_outcome (length_said r) left) ≡ write_after l area
