-- What stretching promises. Of every request, by the call's statement (`Stretching` of crate stretching): `Promised` what every call promises (`Kept` of crate refusals); `PastTheAnswer` that output past the answer is untouched;
-- `records` the records that an output begins with; `GivenAsItIs` which lines stay as they are; `CountAdded` how many records there are; `OthersStay` what becomes of a record that is no tile; `times`, `repeated`, `CopiesKeep`, `FromTheLine` what copies keep;
-- `RunsHaveNoAdvance`. Of the definition (`stretched` of crate runs): `unplaced`, `TurnedRound` that the other direction is the same work.
-- Assumes nothing.
use Rattle.std.specs.Prelude.{◌≡◌, Bool, true, false, cond, not, List, [], ◌∷◌, ◌++◌, map, reverse, ◌⊎◌, ℕ, ◌+◌, ◌<◌, length, replicate, pos}
use Rattle.laws.specs.Lists.{those, Past}
use Rattle.refusals.specs.Numbers.{said}
use Rattle.refusals.specs.Promises.{Kept}
use Rattle.letters.specs.Actions.{repeating}
use Rattle.runs.specs.declared.Tile.{Tile}
use Rattle.runs.specs.Records.{Record, Columns, record_at, listed, line_of, kept, put}
use Rattle.runs.specs.Runs.{acts, is_tile, is_plain, copies_of}
use Rattle.runs.specs.Stretched.{in_order, work, stretched, records_added}
use Rattle.stretching.specs.Stretching.{StretchRequest, stretched_limit, stretch_rows, Answer, length_said, Stretching}

-- What every call promises, of this one: one answer; a refusal alters nothing and answers a length of 0; the smallest number that applies is given.
abbrev pub Promised : Type 0
Promised = Kept Stretching said (stretch_rows stretched_limit) (λ r _. length_said r ≡ 0)

-- ---- the output
-- Output past the answered length is untouched, in each column: all of it, where a request is refused.
abbrev pub PastTheAnswer : Type 0
PastTheAnswer =
    (q : StretchRequest) (output : Columns) (r : Answer) (left : Columns) → Stretching q output r left
    → Past (length_said r) output.glyphs left.glyphs
    × Past (length_said r) output.widths left.widths
    × Past (length_said r) output.categories left.categories
    × Past (length_said r) output.ignorables left.ignorables
    × Past (length_said r) output.actions left.actions
    × Past (length_said r) output.advances left.advances
    × Past (length_said r) output.offsets left.offsets

-- the first n records of columns
abbrev pub records : ℕ → Columns → List Record
records n c = listed (record_at c) n

-- ---- an accepted request: how many records
-- A line of which nothing was recorded is given as it is; so is one that has no tile.
abbrev pub GivenAsItIs : Type 0
GivenAsItIs =
    (q : StretchRequest) (output : Columns) (r : Answer) (left : Columns) → Stretching q output r left → said r ≡ 0
    → (q.recorded ≡ false) ⊎ (those is_tile (line_of q.line) ≡ [])
    → (length_said r ≡ length q.line.actions) × (records (length_said r) left ≡ line_of q.line)

-- A line of which something was recorded grows by copies × tiles, summed over its runs, and by nothing else.
abbrev pub CountAdded : Type 0
CountAdded =
    (q : StretchRequest) (output : Columns) (r : Answer) (left : Columns) → Stretching q output r left → said r ≡ 0
    → q.recorded ≡ true → length_said r ≡ length q.line.actions + records_added false (work q.rtl q.line)

-- ---- an accepted request: which records
-- The records that are no tiles are those of the line, in their order, with all their numbers.
abbrev pub OthersStay : Type 0
OthersStay =
    (q : StretchRequest) (output : Columns) (r : Answer) (left : Columns) → Stretching q output r left → said r ≡ 0
    → those is_plain (records (length_said r) left) ≡ those is_plain (line_of q.line)

-- how often a record stands in the output whose run is copied so often: a repeating tile once and for each copy, any other record once
abbrev pub times : ℕ → Record → ℕ
times copies r = cond (acts repeating r) (1 + copies) 1

-- the five numbers that copies keep, of each record so often; a run has the copies that are reckoned at its first record, and `copies` are those of the run that the record before is in, if it is in one
abbrev pub repeated : Bool → ℕ → List Record → List Tile
repeated inside copies [] = []
repeated inside copies (r ∷ rs) =
    cond (is_tile r)
    (replicate (times (cond inside copies (copies_of (r ∷ rs))) r) (kept r) ++ repeated true (cond inside copies (copies_of (r ∷ rs))) rs)
    (kept r ∷ repeated false 0 rs)

-- Glyph, width, category, ignorable and action are those of the line's records, in their order: each record once, and a repeating tile as often again as its run has copies.
abbrev pub CopiesKeep : Type 0
CopiesKeep =
    (q : StretchRequest) (output : Columns) (r : Answer) (left : Columns) → Stretching q output r left → said r ≡ 0
    → q.recorded ≡ true → map kept (in_order q.rtl (records (length_said r) left)) ≡ repeated false 0 (work q.rtl q.line)

-- In particular, each record of the output has these five of some record of the line.
abbrev pub FromTheLine : Type 0
FromTheLine =
    (q : StretchRequest) (output : Columns) (r : Answer) (left : Columns) → Stretching q output r left → said r ≡ 0
    → (i : ℕ) → i < length_said r → (j : ℕ) × (j < length q.line.actions) × (kept (record_at left i) ≡ kept (record_at q.line j))

-- Where something was recorded, each tile of the output has advance 0.
abbrev pub RunsHaveNoAdvance : Type 0
RunsHaveNoAdvance =
    (q : StretchRequest) (output : Columns) (r : Answer) (left : Columns) → Stretching q output r left → said r ≡ 0
    → q.recorded ≡ true → (i : ℕ) → i < length_said r → is_tile (record_at left i) ≡ true → (record_at left i).advance ≡ pos 0

-- ---- the two directions
-- a record but for its offset
abbrev pub unplaced : Record → Record
unplaced r = put (kept r) r.advance (pos 0)

-- The other direction is the same work with the order turned: a line turned round becomes, but for the offsets, the same records turned round.
abbrev pub TurnedRound : Type 0
TurnedRound = (rtl : Bool) (l : List Record) → map unplaced (stretched (not rtl) l) ≡ reverse (map unplaced (stretched rtl (reverse l)))
