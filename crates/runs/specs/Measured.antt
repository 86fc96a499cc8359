-- What measuring answers, of the records from a place on in the order of the work: `Even` that the columns which are measured are of one length; `Lent` columns that a line has; `sums_of` a run's sums; `word_sum` a word's; `measured_of` a run with the word before it;
-- `NextRun`, `SumsAt`, `WordAt`, `MeasuredAt`, `StretchedLength` what the calls answer: where the next run begins, each of these three, and how many records the stretched line has.
-- Assumes nothing.
use Rattle.std.specs.Prelude.{◌≡◌, Bool, false, List, map, ℕ, ◌+◌, length, drop, ℤ, pos}
use Rattle.laws.specs.Lists.{front}
use Rattle.letters.specs.Actions.{fixed, repeating}
use Rattle.runs.specs.Records.{Record, Columns}
use Rattle.runs.specs.Runs.{in_word, run, plain, sum, width_of, tiles, copies_of, overlap_of, start_of}
use Rattle.runs.specs.Stretched.{work, worked}
use Rattle.runs.specs.declared.Sums.{Sums}
use Rattle.runs.specs.declared.Measured.{Measured}

-- the columns that are measured are of one length
pub record Even (c : Columns) : Type 0 where
  pub even_widths : length c.widths ≡ length c.actions
  pub even_categories : length c.categories ≡ length c.actions
  pub even_ignorables : length c.ignorables ≡ length c.actions
  pub even_advances : length c.advances ≡ length c.actions

-- a line has these columns
pub record Lent (c : Columns) (widths : List ℤ) (categories ignorables actions : List ℕ) (advances : List ℤ) : Type 0 where
  pub has_widths : c.widths ≡ widths
  pub has_categories : c.categories ≡ categories
  pub has_ignorables : c.ignorables ≡ ignorables
  pub has_actions : c.actions ≡ actions
  pub has_advances : c.advances ≡ advances

-- the run that begins at a place, whose records and those behind it are l: its widths, its tiles, and the place past it
unfoldable pub sums_of : ℕ → List Record → Sums
sums_of from l = record { fixed = width_of fixed l; repeating = width_of repeating l; tiles = tiles l; past = from + length (run l) }

-- the advances together of the word that begins at a place
unfoldable pub word_sum : List Record → ℤ
word_sum l = sum (pos 0) (map (λ (r : Record). r.advance) (front in_word l))

-- the run that begins at a place, with the word before it
unfoldable pub measured_of : ℕ → List Record → Measured
measured_of from l = record {
  past = from + length (run l);
  tiles = tiles l;
  copies = copies_of l;
  overlap = overlap_of l;
  start = start_of l;
}

-- ---- what the calls answer that are lent some of a line's columns: of any line that has these
-- where the next run begins, or the line ends
abbrev pub NextRun : Bool → ℕ → List ℕ → ℕ → Type 0
NextRun rtl from actions r = (c : Columns) → c.actions ≡ actions → r ≡ from + length (plain (drop from (work rtl c)))

-- the run that begins at a place; the word that does; and both
abbrev pub SumsAt : Bool → ℕ → List ℤ → List ℕ → Sums → Type 0
SumsAt rtl from widths actions r = (c : Columns) → c.widths ≡ widths → c.actions ≡ actions → r ≡ sums_of from (drop from (work rtl c))

abbrev pub WordAt : Bool → ℕ → List ℕ → List ℕ → List ℕ → List ℤ → ℤ → Type 0
WordAt rtl from categories ignorables actions advances r =
    (c : Columns) → Lent c c.widths categories ignorables actions advances → r ≡ word_sum (drop from (work rtl c))

abbrev pub MeasuredAt : Bool → ℕ → Columns → Measured → Type 0
MeasuredAt rtl from l r =
    (c : Columns) → Lent c l.widths l.categories l.ignorables l.actions l.advances → r ≡ measured_of from (drop from (work rtl c))

-- how many records the stretched line has
abbrev pub StretchedLength : Bool → Columns → ℕ → Type 0
StretchedLength rtl l r =
    (c : Columns) → Lent c l.widths l.categories l.ignorables l.actions l.advances → r ≡ length (worked rtl false (work rtl c))
