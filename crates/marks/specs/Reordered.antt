-- The call that reorders marks: `ReorderRequest` what is asked for; `Columns` what is lent; `reorder_request`, `columns_of` these from a call's parameters, `marks_lent` as an `ensures` has them, `classes_lent` where only the classes may be written; `ReorderOutcome`, `reorder_outcome` what is there afterwards; `line`, `part`, `new_part`, `new_line`, `reordered`, `ranges_of` what reordering
-- gives; `rows_of`, `reorder_rows`, `reorder_refusal` when it is refused, and with which number; `Answer` what the call answers; `span`, `listed`, `ranges_said` what an answer says; `reorder_after`, `Reordering` what the call answers
-- and leaves, of every input.
-- Assumes nothing.
use Rattle.std.specs.Prelude.{◌≡◌, not, ◌||◌, List, [], ◌∷◌, ◌++◌, ℕ, eqb, ltb, length, take, drop, Result, Ok, Err}
use Rattle.std.proofs.Math.Seq.{slice}
use denote.Triple.Both.{Both}
use Rattle.laws.specs.Lent.{Borrowed, BorrowedMut}
use Rattle.laws.specs.Rows.{Row, Given, first}
use Rattle.refusals.specs.declared.Refusal.{Refusal}
use Rattle.refusals.specs.Numbers.{said}
use Rattle.refusals.specs.Columns.{line_limit}
use Rattle.refusals.specs.Left.{Left, After, leaves}
use Rattle.blocks.specs.Marks.{Mark, marks, codes_of, classes_of}
use Rattle.marks.specs.Passes.{Span, Over, reorder_classes, new_class_lem, passes, ranges}
use Rattle.marks.specs.declared.Range.{Range}
use Rattle.marks.specs.declared.Merged.{Merged}
use Rattle.marks.specs.declared.Merged.TheVariants.{Nothing, One, Two}

-- the part from start to end, and the two lent class numbers
pub record ReorderRequest : Type 0 where
  pub start : ℕ
  pub end : ℕ
  pub low : ℕ
  pub high : ℕ

-- a line's columns of codes and of classes
pub record Columns : Type 0 where
  pub codes : List ℕ
  pub classes : List ℕ

-- the ranges that the call answers, and the columns afterwards
pub record ReorderOutcome : Type 0 where
  pub ranges : List Span
  pub columns : Columns

abbrev pub reorder_request : ℕ → ℕ → ℕ → ℕ → ReorderRequest
reorder_request start end low high = record { start = start; end = end; low = low; high = high }

abbrev pub columns_of : List ℕ → List ℕ → Columns
columns_of codes classes = record { codes = codes; classes = classes }

-- the columns lent, `.entry`, and those that come back, `.exit`
abbrev pub marks_lent : BorrowedMut ℕ → BorrowedMut ℕ → Both Columns Columns
marks_lent codes classes =
    record {
      entry = columns_of codes.entry.now classes.entry.now;
      exit = columns_of codes.exit.now classes.exit.now;
    }

-- the same where the codes are only read
abbrev pub classes_lent : Borrowed ℕ → BorrowedMut ℕ → Both Columns Columns
classes_lent seen classes =
    record {
      entry = columns_of seen.entry.now classes.entry.now;
      exit = columns_of seen.exit.now classes.exit.now;
    }

abbrev pub reorder_outcome : List Span → Columns → ReorderOutcome
reorder_outcome ranges columns = record { ranges = ranges; columns = columns }

-- a line's marks; those from start to end, and these after the passes
abbrev pub line : Columns → List Mark
line c = marks c.codes c.classes

abbrev pub part : ReorderRequest → Columns → List Mark
part q c = slice q.start q.end (line c)

abbrev pub new_part : ReorderRequest → Columns → List Mark
new_part q c = passes (new_class_lem q.low q.high) reorder_classes (part q c)

-- the line with its part reordered: "The code and class columns move alike"
abbrev pub new_line : ReorderRequest → Columns → List Mark
new_line q c = take q.start (line c) ++ (new_part q c ++ drop q.end (line c))

abbrev pub reordered : ReorderRequest → Columns → Columns
reordered q c = columns_of (codes_of (new_line q c)) (classes_of (new_line q c))

abbrev pub ranges_of : ReorderRequest → Columns → List Span
ranges_of q c = ranges q.start reorder_classes (part q c)

-- the rows of document 01's table that reordering uses, for a part from start to end of two columns of n and m records
abbrev pub rows_of : ℕ → ℕ → ℕ → ℕ → List Row
rows_of n m start end =
    Given 1 (not (eqb n m)) ∷
    Given 2 (ltb line_limit n) ∷
    -- "a range with start above end or end above the length"
    Given 4 (ltb end start || ltb n end) ∷
    []

-- for a request on columns, and the number that it is refused with, 0 if it is not
abbrev pub reorder_rows : ReorderRequest → Columns → List Row
reorder_rows q c = rows_of (length c.codes) (length c.classes) q.start q.end

unfoldable pub reorder_refusal : ReorderRequest → Columns → ℕ
reorder_refusal q c = first (reorder_rows q c)

-- what an answer says: "The answer lists the ranges .., at most two"; a refusal has its number and no range
abbrev pub span : Range → Span
span r = Over r.from r.to

abbrev pub listed : Merged → List Span
listed Nothing = []
listed (One a) = span a ∷ []
listed (Two a b) = span a ∷ span b ∷ []

-- the ranges, or why the call is refused
abbrev pub Answer : Type 0
Answer = Result Merged Refusal

abbrev pub ranges_said : Answer → List Span
ranges_said (Ok m) = listed m
ranges_said (Err k) = []

-- the call: a refusal gives its number, no range, and leaves the columns as they were
abbrev pub reorder_after : ReorderRequest → Columns → Left ReorderOutcome
reorder_after q c = leaves (reorder_refusal q c) (reorder_outcome [] c) (reorder_outcome (ranges_of q c) (reordered q c))

-- the statement of `reorder_modifier_combining_marks`: asked for q on the columns c, it may answer r and leave the columns d
abbrev pub Reordering : ReorderRequest → Columns → Answer → Columns → Type 0
Reordering q c r d = After (said r) (reorder_outcome (ranges_said r) d) ≡ reorder_after q c
