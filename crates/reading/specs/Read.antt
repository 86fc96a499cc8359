-- The call that reads a lookup back (document 01, "Reading back"): `Columns`, `list_of` what is lent; `list_lent` the same from a call's parameters, as an `ensures` has them; `ReadOutcome` what is there afterwards; `type_of`, `components_of_lem` what a kind says; `nothing`, `found`, `made` what is there with no lookup read, with one, and as the bytes decide; `accepted`, `lacking`, `read_rows`, `read_refusal` when reading is refused, and with which number;
-- `Answer`, `outcome_said` an answer, and what it says; `read_after`, `Reading` what the call answers and leaves, of every input.
-- Assumes nothing.
use Rattle.std.specs.Prelude.{◌≡◌, Bool, true, false, not, ◌||◌, List, [], ◌∷◌, ◌++◌, ℕ, ltb, length, drop, Result, Ok, Err}
use denote.Triple.Both.{Both}
use Rattle.laws.specs.Lent.{BorrowedMut}
use Rattle.laws.specs.Rows.{Row, Given, first}
use Rattle.refusals.specs.declared.Refusal.{Refusal}
use Rattle.refusals.specs.Numbers.{said}
use Rattle.refusals.specs.Left.{Left, After, leaves}
use Rattle.layouts.specs.declared.Kind.{Kind}
use Rattle.layouts.specs.declared.Kind.TheVariants.{Single, Ligature}
use Rattle.layouts.specs.Lookups.{Lookup}
use Rattle.scanning.specs.Scans.{Scan, fine, wrong, short}
use Rattle.scanning.specs.Grammar.{reading}
use Rattle.reading.specs.declared.Lookup.{Lookup as LookupRead}

-- two columns for the list: glyphs, or flat components; substitutes, or ligatures
pub record Columns : Type 0 where
  pub glyphs : List ℕ
  pub substitutes : List ℕ

abbrev pub list_of : List ℕ → List ℕ → Columns
list_of glyphs substitutes = record { glyphs = glyphs; substitutes = substitutes }

-- the columns lent, `.entry`, and those that come back, `.exit`
abbrev pub list_lent : BorrowedMut ℕ → BorrowedMut ℕ → Both Columns Columns
list_lent glyphs substitutes =
    record {
      entry = list_of glyphs.entry.now substitutes.entry.now;
      exit = list_of glyphs.exit.now substitutes.exit.now;
    }

-- "A lookup as read says its flags and whether it is single, or ligature with its component number": its type is OpenType's, 1 or 4, its component number 0 if it is single; and it says how many rules it has
pub record ReadOutcome : Type 0 where
  pub type : ℕ
  pub components : ℕ
  pub flags : ℕ
  pub count : ℕ
  pub list : Columns

abbrev pub type_of : Kind → ℕ
type_of Single = 1
type_of (Ligature n) = 4

abbrev pub components_of_lem : Kind → ℕ
components_of_lem Single = 0
components_of_lem (Ligature n) = n

-- no lookup: zeros, and the columns as they are
abbrev pub nothing : Columns → ReadOutcome
nothing c = record { type = 0; components = 0; flags = 0; count = 0; list = c }

-- a lookup, its list at the start of the columns: "Output past the answer is untouched"
abbrev pub found : Lookup → Columns → ReadOutcome
found l c =
    record {
      type = type_of l.kind;
      components = components_of_lem l.kind;
      flags = l.flags;
      count = length l.substitutes;
      list = list_of (l.glyphs ++ drop (length l.glyphs) c.glyphs) (l.substitutes ++ drop (length l.substitutes) c.substitutes);
    }

-- "bytes that are no written lookup"
abbrev pub accepted : Scan → Bool
accepted (fine l) = true
accepted (wrong left) = false
accepted short = false

-- "the lent output is shorter than the answer", "each by its own part"
abbrev pub lacking : Scan → Columns → Bool
lacking (fine l) c = ltb (length c.glyphs) (length l.glyphs) || ltb (length c.substitutes) (length l.substitutes)
lacking (wrong left) c = false
lacking short c = false

-- the rows of document 01's table that reading uses
abbrev pub read_rows : Scan → Columns → List Row
read_rows s c =
    Given 7 (not (accepted s)) ∷
    Given 8 (lacking s c) ∷
    []

unfoldable pub read_refusal : Scan → Columns → ℕ
read_refusal s c = first (read_rows s c)

-- what is there if the call is accepted
abbrev pub made : Scan → Columns → ReadOutcome
made (fine l) c = found l c
made (wrong left) c = nothing c
made short c = nothing c

-- what the call answers: a lookup as read, or why none was
abbrev pub Answer : Type 0
Answer = Result LookupRead Refusal

-- what an answer says; a refusal says zeros
abbrev pub outcome_said : Answer → Columns → ReadOutcome
outcome_said (Ok l) c = record { type = type_of l.kind; components = components_of_lem l.kind; flags = l.flags; count = l.len; list = c }
outcome_said (Err k) c = nothing c

-- a refusal leaves the columns as they were
abbrev pub read_after : List ℕ → Columns → Left ReadOutcome
read_after b c = leaves (read_refusal (reading b) c) (nothing c) (made (reading b) c)

-- the statement of `read_lookup`: lent the bytes b and two columns, it may answer r and leave the columns `left`
abbrev pub Reading : List ℕ → Columns → Answer → Columns → Type 0
Reading b c r left = After (said r) (outcome_said r left) ≡ read_after b c
