-- The call that stretches a line: `stretched_limit` how many records its answer may have; `StretchRequest`, `stretch_request` what is asked for; `Columns` (crate runs) what is lent, the line's and the output's; `StretchOutcome`, `stretch_outcome` what is there afterwards; `new_line` what stretching gives; `over`, `laid_over` where it is laid;
-- `differing`, `unequal`, `lacking`, `shorter`, `rows_of`, `stretch_rows`, `stretch_refusal` when it is refused, and with which number; `Answer` what the call answers, `length_said` what it says; `judged`, `Judging` what is answered before anything is laid; `stretch_after`, `Stretching` what the call answers and leaves, of every input; `NewLength` the length of the new line, of some columns of the line.
-- Assumes nothing.
use Rattle.std.specs.Prelude.{◌≡◌, Bool, cond, not, ◌&&◌, ◌||◌, List, [], ◌∷◌, ◌++◌, ℕ, eqb, ltb, length, drop, Result, Ok, Err}
use Rattle.laws.specs.Rows.{Row, Given, first}
use Rattle.refusals.specs.declared.Refusal.{Refusal}
use Rattle.refusals.specs.Numbers.{said}
use Rattle.refusals.specs.Columns.{line_limit, at_most}
use Rattle.refusals.specs.Left.{Left, After, leaves}
use Rattle.letters.specs.Categories.{Zs}
use Rattle.letters.specs.Actions.{repeating}
use Rattle.runs.specs.Records.{Record, Columns, columns, line_of, columns_of}
use Rattle.runs.specs.Stretched.{stretched}
use Rattle.runs.specs.Measured.{Lent}

-- "a stretched line of over 16,384 records"
abbrev pub stretched_limit : ℕ
stretched_limit = 16384

-- whether any record was recorded, the direction, and the line
pub record StretchRequest : Type 0 where
  pub recorded : Bool
  pub rtl : Bool
  pub line : Columns

abbrev pub stretch_request : Bool → Bool → Columns → StretchRequest
stretch_request recorded rtl line = record { recorded = recorded; rtl = rtl; line = line }

-- the length that the call answers, and the output columns afterwards
pub record StretchOutcome : Type 0 where
  pub count : ℕ
  pub output : Columns

abbrev pub stretch_outcome : ℕ → Columns → StretchOutcome
stretch_outcome count output = record { count = count; output = output }

-- "stretching is lent this and, if not, gives the line as it is"
abbrev pub new_line : StretchRequest → List Record
new_line q = cond q.recorded (stretched q.rtl (line_of q.line)) (line_of q.line)

-- records over the first places of the output: "Output past the answer is untouched"
abbrev pub over : Columns → Columns → ℕ → Columns
over new old n =
    columns
    (new.glyphs ++ drop n old.glyphs)
    (new.widths ++ drop n old.widths)
    (new.categories ++ drop n old.categories)
    (new.ignorables ++ drop n old.ignorables)
    (new.actions ++ drop n old.actions)
    (new.advances ++ drop n old.advances)
    (new.offsets ++ drop n old.offsets)

abbrev pub laid_over : List Record → Columns → Columns
laid_over l output = over (columns_of l) output (length l)

-- "columns that belong together differ in length": some number of records is not n, that of the actions
abbrev pub differing : ℕ → ℕ → ℕ → ℕ → ℕ → ℕ → ℕ → Bool
differing n glyphs widths categories ignorables advances offsets =
    not (eqb glyphs n) || (not (eqb widths n) || (not (eqb categories n) || (not (eqb ignorables n) || (not (eqb advances n) || not (eqb offsets n)))))

abbrev pub unequal : Columns → Bool
unequal c =
    differing
    (length c.actions)
    (length c.glyphs)
    (length c.widths)
    (length c.categories)
    (length c.ignorables)
    (length c.advances)
    (length c.offsets)

-- "the lent output is shorter than the answer", "each by its own part": some number of places is below n
abbrev pub lacking : ℕ → ℕ → ℕ → ℕ → ℕ → ℕ → ℕ → ℕ → Bool
lacking n glyphs widths categories ignorables actions advances offsets =
    ltb glyphs n || (ltb widths n || (ltb categories n || (ltb ignorables n || (ltb actions n || (ltb advances n || ltb offsets n)))))

abbrev pub shorter : ℕ → Columns → Bool
shorter n c =
    lacking
    n
    (length c.glyphs)
    (length c.widths)
    (length c.categories)
    (length c.ignorables)
    (length c.actions)
    (length c.advances)
    (length c.offsets)

-- the rows of document 01's table that stretching uses, under a cap; `short` if the output is shorter than the answer
abbrev pub rows_of : ℕ → StretchRequest → Bool → List Row
rows_of cap q short =
    Given 1 (unequal q.line) ∷
    Given 2 (ltb line_limit (length q.line.actions)) ∷
    -- "a .. category above 29, action above 9"
    Given 3 (not (at_most Zs q.line.categories && at_most repeating q.line.actions)) ∷
    Given 6 (ltb cap (length (new_line q))) ∷
    Given 8 short ∷
    []

abbrev pub stretch_rows : ℕ → StretchRequest → Columns → List Row
stretch_rows cap q output = rows_of cap q (shorter (length (new_line q)) output)

unfoldable pub stretch_refusal : ℕ → StretchRequest → Columns → ℕ
stretch_refusal cap q output = first (stretch_rows cap q output)

-- how many records the stretched line has, or why the call is refused; a refusal says 0
abbrev pub Answer : Type 0
Answer = Result ℕ Refusal

abbrev pub length_said : Answer → ℕ
length_said (Ok n) = n
length_said (Err k) = 0

-- what is answered before anything is laid: the number, and the length, 0 with a refusal
abbrev pub judged : ℕ → StretchRequest → Bool → Left ℕ
judged cap q short = leaves (first (rows_of cap q short)) 0 (length (new_line q))

abbrev pub Judging : ℕ → StretchRequest → Bool → Answer → Type 0
Judging cap q short r = After (said r) (length_said r) ≡ judged cap q short

-- the call under a cap: a refusal leaves the output as it was
abbrev pub stretch_after : ℕ → StretchRequest → Columns → Left StretchOutcome
stretch_after cap q output = leaves (stretch_refusal cap q output) (stretch_outcome 0 output) (stretch_outcome (length (new_line q)) (laid_over (new_line q) output))

-- the statement of `stretch`: asked for q with an output lent, it may answer r and leave the output `left`
abbrev pub Stretching : StretchRequest → Columns → Answer → Columns → Type 0
Stretching q output r left = After (said r) (stretch_outcome (length_said r) left) ≡ stretch_after stretched_limit q output

-- ---- what is answered by calls that are lent a part of that
-- the length of the new line, of any line with these columns
abbrev pub NewLength : Bool → Bool → Columns → ℕ → Type 0
NewLength recorded rtl l r =
    (c : Columns) → Lent c l.widths l.categories l.ignorables l.actions l.advances → r ≡ length (new_line (stretch_request recorded rtl c))
