-- What a caller of the interface hands over and is told, where that is more than a call's own numbers: `manner_lent` feature masks and a byte for yes or no; `Told`, `told`, `places`, `told_of` the ranges of reordered marks in four places;
-- `seen` what a call leaves, told so; `line_asked`, `line_told` a line to be stretched, and the length with the output; `read_as` a lookup as read, number by number; `plan_told` a plan; `needs_of` what a font leaves to the fallback.
-- Assumes nothing.
use Rattle.std.specs.Prelude.{Bool, List, [], ◌∷◌, ℕ, length}
use Rattle.std.specs.Borrow.{MutBor}
use denote.Triple.Both.{Both}
use Rattle.laws.specs.Lent.{Borrowed, BorrowedMut}
use Rattle.refusals.specs.Columns.{yes}
use Rattle.refusals.specs.Left.{Left, After}
use Rattle.lines.specs.declared.Manner.{Manner}
use Rattle.lines.specs.Held.{manner_of}
use Rattle.marks.specs.Passes.{Span, Over}
use Rattle.marks.specs.Reordered as marks
use Rattle.runs.specs.Records.{Columns}
use Rattle.stretching.specs.Stretching.{StretchRequest, stretch_request, StretchOutcome, stretch_outcome}
use Rattle.reading.specs.Read as reading
use Rattle.fallback.specs.declared.Needs.{Needs}
use Rattle.fallback.specs.Planned.{PlanOutcome, plan_outcome}

-- a number that is lent
abbrev Lent : Type 0
Lent = Both (MutBor ℕ) (MutBor ℕ)

-- how a line is joined, from seven masks and a byte; other than 0 it is a yes
abbrev pub manner_lent : Borrowed ℕ → ℕ → Manner
manner_lent features mongolian = manner_of features.entry.now (yes mongolian)

-- how many ranges there are, their places, and the columns afterwards
pub record Told : Type 0 where
  pub count : ℕ
  pub ranges : List ℕ
  pub left : marks.Columns

abbrev pub told : ℕ → List ℕ → marks.Columns → Told
told count ranges left = record { count = count; ranges = ranges; left = left }

-- start and end of each range, in four places; zeros past them. No answer has more than two ranges
abbrev pub places : List Span → List ℕ
places [] = 0 ∷ 0 ∷ 0 ∷ 0 ∷ []
places (Over a b ∷ []) = a ∷ b ∷ 0 ∷ 0 ∷ []
places (Over a b ∷ (Over c d ∷ others)) = a ∷ b ∷ c ∷ d ∷ []

abbrev pub told_of : marks.ReorderOutcome → Told
told_of o = told (length o.ranges) (places o.ranges) o.columns

-- what a call leaves, as it is told
abbrev pub seen : {A B : Type 0} → (A → B) → Left A → Left B
seen f (After number there) = After number (f there)

-- a line to be stretched, as it is lent; a byte other than 0 is a yes
abbrev pub line_asked : ℕ → ℕ → Both Columns Columns → StretchRequest
line_asked recorded rtl line = stretch_request (yes recorded) (yes rtl) line.entry

-- the length that is told, and the output as it comes back
abbrev pub line_told : Lent → Both Columns Columns → StretchOutcome
line_told length output = stretch_outcome length.exit.now output.exit

-- a lookup as read: OpenType's type (1 or 4), components, flags, rules, and the two columns afterwards
abbrev pub read_as : ℕ → ℕ → ℕ → ℕ → reading.Columns → reading.ReadOutcome
read_as type components flags count list = record { type = type; components = components; flags = flags; count = count; list = list }

-- how many entries a plan has, their masks and lengths, and the area, all as they come back
abbrev pub plan_told : Lent → BorrowedMut ℕ → BorrowedMut ℕ → BorrowedMut ℕ → PlanOutcome
plan_told count masks lengths area = plan_outcome count.exit.now masks.exit.now lengths.exit.now area.exit.now

abbrev pub needs_of : Bool → Bool → Bool → Bool → Needs
needs_of isol fina medi init = record { isol = isol; fina = fina; medi = medi; init = init }
