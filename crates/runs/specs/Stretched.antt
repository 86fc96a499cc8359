-- The stretched line (document 01, "Stretching"), as a list of records in the order of the work: `in_order`, `work`, `part_of` that order; `Piece`, `pieces`, `copies_for`, `run_pieces` a tile and its copies; `moved`, `next`, `offset_at`, `placed` where they come to stand; `placed_run` a run, placed;
-- `worked` the whole line; `stretched` the same in the line's own order; `records_added` how many records that adds.
-- Assumes nothing.
use Rattle.std.specs.Prelude.{Bool, true, false, cond, List, [], ◌∷◌, ◌++◌, reverse, ℕ, ◌+◌, ◌-◌, ◌*◌, replicate, ℤ, pos}
use Rattle.letters.specs.Actions.{repeating}
use Rattle.fitting.specs.Saturating.{sat_add_lem, sat_sub_lem}
use Rattle.runs.specs.Records.{Record, Columns, line_of, kept, put}
use Rattle.runs.specs.declared.Tile.{Tile}
use Rattle.runs.specs.Runs.{acts, is_tile, run, tiles, copies_of, overlap_of, start_of}

-- "Stretching works from the end"; left to right "the line is reversed before and after", so that it works from the start
unfoldable pub in_order : {A : Type 0} → Bool → List A → List A
in_order rtl l = cond rtl (reverse l) l

-- the records of a line's columns, in that order
unfoldable pub work : Bool → Columns → List Record
work rtl c = in_order rtl (line_of c)

-- the place, in a line of n, at which the s records begin that come from the k-th on in that order
unfoldable pub part_of : Bool → ℕ → ℕ → ℕ → ℕ
part_of rtl n k s = cond rtl (n - k - s) k

-- a tile that is to be placed, with the overlap that it takes
pub record Piece : Type 0 where
  pub of : Tile
  pub lap : ℤ

abbrev pub piece : Tile → ℤ → Piece
piece t lap = record { of = t; lap = lap }

-- a tile, which takes no overlap, and n copies of it, which do
unfoldable pub pieces : ℕ → ℤ → Tile → List Piece
pieces n overlap t = piece t (pos 0) ∷ replicate n (piece t overlap)

-- how many copies a record of a run gets: only repeating tiles are copied
abbrev pub copies_for : ℕ → Record → ℕ
copies_for copies r = cond (acts repeating r) copies 0

-- the tiles of a run, each with its copies
unfoldable pub run_pieces : ℕ → ℤ → List Record → List Piece
run_pieces copies overlap [] = []
run_pieces copies overlap (r ∷ rs) = pieces (copies_for copies r) overlap (kept r) ++ run_pieces copies overlap rs

-- "Right to left, each record first subtracts its width and, for a copy, adds the overlap"; otherwise "its width is added and, for a copy, the overlap subtracted"
unfoldable pub moved : Bool → ℤ → ℤ → ℤ → ℤ
moved rtl x width lap = cond rtl (sat_add_lem (sat_sub_lem x width) lap) (sat_sub_lem (sat_add_lem x width) lap)

unfoldable pub next : Bool → ℤ → Piece → ℤ
next rtl x p = moved rtl x p.of.width p.lap

-- right to left this is "first"; otherwise "once a record is placed"
unfoldable pub offset_at : Bool → ℤ → Piece → ℤ
offset_at rtl x p = cond rtl (next rtl x p) x

-- pieces placed one after the other, from the offset x on: "Run records get advance 0"
unfoldable pub placed : Bool → ℤ → List Piece → List Record
placed rtl x [] = []
placed rtl x (p ∷ ps) = put p.of (pos 0) (offset_at rtl x p) ∷ placed rtl (next rtl x p) ps

-- the run that a list begins with
unfoldable pub placed_run : Bool → List Record → List Record
placed_run rtl l = placed rtl (start_of l) (run_pieces (copies_of l) (overlap_of l) (run l))

-- the work: a run is placed whole at its first record, where it is the longest; inside it nothing is left to do; any other record stays as it is
unfoldable pub worked : Bool → Bool → List Record → List Record
worked rtl inside [] = []
worked rtl inside (r ∷ rs) =
    cond (is_tile r) (cond inside [] (placed_run rtl (r ∷ rs)) ++ worked rtl true rs) (r ∷ worked rtl false rs)

unfoldable pub stretched : Bool → List Record → List Record
stretched rtl l = in_order rtl (worked rtl false (in_order rtl l))

-- "copies × tiles summed over the runs", in the order of the work
unfoldable pub records_added : Bool → List Record → ℕ
records_added inside [] = 0
records_added inside (r ∷ rs) = cond (is_tile r) (cond inside 0 (copies_of (r ∷ rs) * tiles (r ∷ rs)) + records_added true rs) (records_added false rs)
