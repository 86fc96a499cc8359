-- What stretching promises of the copies of a run and of where its tiles stand, said again in words of its own: not by the recursion of the work, but by places and by what the numbers are for. Of numbers: `Covers` how many copies a run has; `too_wide` whether its tiles exceed the room; `Laps` by how much copies overlap; `opening` where the offsets start. Of the line, in the order of the work: `total` a sum over places; `tile_first`, `begins` where a run begins;
-- `Copied`, `Lapped` those numbers of a run; `Numbered` of each; `OneNumber` that there is one of each, and no other; `added_at` how many records a run adds; `CountByPlaces` how many records there are. Of the output: `comes` the record that comes k-th; `OthersCome` where records come that are no tiles; `extra`, `spot` how many copies a tile has, and where it comes; `left_of`, `right_of`, `beside` where a record stands beside its neighbour; `RunStands`, `TilesStand` where the tiles of each run stand.
-- Assumes nothing.
use Rattle.std.specs.Prelude.{◌≡◌, Bool, true, false, cond, not, ◌&&◌, List, [], ◌∷◌, ℕ, zero, suc, ◌+◌, ◌-◌, ◌*◌, ◌<◌, ◌≤◌, ltb, length, drop, ℤ, pos, ◌+ℤ◌, ◌*ℤ◌, ◌≤ℤ◌, ◌<ℤ◌}
use Rattle.std.specs.Int.Signed.{lt_z, quot_z}
use Rattle.letters.specs.Actions.{repeating}
use Rattle.fitting.specs.Saturating.{sat_add_lem, sat_sub_lem}
use Rattle.runs.specs.Records.{Record, Columns, record_at, kept}
use Rattle.runs.specs.Runs.{acts, is_tile, run, room, repeating_width, tiles}
use Rattle.runs.specs.Stretched.{work}
use Rattle.refusals.specs.Numbers.{said}
use Rattle.stretching.specs.Stretching.{StretchRequest, Answer, length_said, Stretching}

-- ---- numbers: the repeating tiles of a run are w wide together, and each is there once and for each copy
-- c is the number of copies: the least with which the tiles cover the room; of tiles that have no width above 0 one, if the room exceeds their width and there is a tile, else none
pub record Covers (room w : ℤ) (tiles c : ℕ) : Type 0 where
  pub enough : pos 0 <ℤ w → room ≤ℤ (pos (c + 1) *ℤ w)
  pub fewer : pos 0 <ℤ w → (d : ℕ) → d < c → (pos (d + 1) *ℤ w) <ℤ room
  pub once : w ≤ℤ pos 0 → c ≡ cond (lt_z w room && ltb 0 tiles) 1 0

-- there are copies, and the tiles exceed the room with them
abbrev pub too_wide : ℤ → ℤ → ℕ → Bool
too_wide room w c = ltb 0 c && lt_z room (pos (c + 1) *ℤ w)

-- each copy of each tile overlaps by o, so that all together are narrower by o × c × tiles: the largest o with which tiles that exceed the room still cover it; 0, if they do not exceed it
pub record Laps (room w : ℤ) (tiles c o : ℕ) : Type 0 where
  pub covered : too_wide room w c ≡ true → (room +ℤ pos (o * (c * tiles))) ≤ℤ (pos (c + 1) *ℤ w)
  pub largest : too_wide room w c ≡ true → (pos (c + 1) *ℤ w) <ℤ (room +ℤ pos ((o + 1) * (c * tiles)))
  pub none : too_wide room w c ≡ false → o ≡ 0

-- the offsets start at 0, if the tiles exceed the room, else at half of it, towards zero
abbrev pub opening : ℤ → ℤ → ℕ → ℤ
opening room w c = cond (too_wide room w c) (pos 0) (quot_z room (pos 2))

-- ---- places of the line, in the order of the work
-- f 0 + f 1 and so on, n of them
abbrev pub total : (ℕ → ℕ) → ℕ → ℕ
total f zero = 0
total f (suc n) = f 0 + total (λ (k : ℕ). f (suc k)) n

-- whether the first record is a tile; there may be none
abbrev pub tile_first : List Record → Bool
tile_first [] = false
tile_first (r ∷ rs) = is_tile r

-- whether a run begins at a place: a tile stands there, and none directly before it
abbrev pub begins : List Record → ℕ → Bool
begins l zero = tile_first l
begins l (suc i) = not (tile_first (drop i l)) && tile_first (drop (suc i) l)

-- the run that a list begins with has c copies of each repeating tile, and these overlap by o
abbrev pub Copied : List Record → ℕ → Type 0
Copied l c = Covers (room l) (repeating_width l) (tiles l) c

abbrev pub Lapped : List Record → ℕ → ℕ → Type 0
Lapped l c o = Laps (room l) (repeating_width l) (tiles l) c o

-- the copies of the run that begins at i, wherever one does
abbrev pub Numbered : List Record → (ℕ → ℕ) → Type 0
Numbered l copies = (i : ℕ) → begins l i ≡ true → Copied (drop i l) (copies i)

-- Every run has a number of copies and an overlap, and no other: what is promised below for any such numbers is promised for the only ones.
abbrev pub OneNumber : Type 0
OneNumber = (l : List Record) → (c : ℕ) × (o : ℕ) × Copied l c × Lapped l c o × ((d p : ℕ) → Copied l d → Lapped l d p → (d ≡ c) × (p ≡ o))

-- copies × tiles, where a run begins
abbrev pub added_at : List Record → (ℕ → ℕ) → ℕ → ℕ
added_at l copies i = cond (begins l i) (copies i * tiles (drop i l)) 0

-- A line of which something was recorded grows by copies × tiles at each place where a run begins, and by nothing else.
abbrev pub CountByPlaces : Type 0
CountByPlaces =
    (q : StretchRequest) (output : Columns) (r : Answer) (left : Columns) → Stretching q output r left → said r ≡ 0 → q.recorded ≡ true
    → let w = work q.rtl q.line in
    (copies : ℕ → ℕ) → Numbered w copies → length_said r ≡ length q.line.actions + total (added_at w copies) (length q.line.actions)

-- ---- places of the output
-- of the n records that columns begin with, the one that comes k-th in the order of the work: right to left from the end
abbrev pub comes : Bool → ℕ → Columns → ℕ → Record
comes rtl n c k = record_at c (cond rtl (n - k - 1) k)

-- A record that is no tile comes in the output as many places later as the runs before it have added, with all its numbers.
abbrev pub OthersCome : Type 0
OthersCome =
    (q : StretchRequest) (output : Columns) (r : Answer) (left : Columns) → Stretching q output r left → said r ≡ 0 → q.recorded ≡ true
    → let w = work q.rtl q.line in
    (copies : ℕ → ℕ) → Numbered w copies → (i : ℕ) → i < length q.line.actions → tile_first (drop i w) ≡ false
    → comes q.rtl (length_said r) left (i + total (added_at w copies) i) ≡ comes q.rtl (length q.line.actions) q.line i

-- the k-th tile of a run has c copies, if it is a repeating one, else none
abbrev pub extra : (ℕ → Record) → ℕ → ℕ → ℕ
extra tile c k = cond (acts repeating (tile k)) c 0

-- it comes behind the tiles before it and their copies
abbrev pub spot : (ℕ → Record) → ℕ → ℕ → ℕ
spot tile c k = k + total (extra tile c) k

-- right to left, x stands by its own width to the left of its neighbour y, and if x is a copy by the overlap less far
abbrev pub left_of : ℤ → Bool → Record → Record → ℤ
left_of overlap copy y x = cond copy (sat_add_lem (sat_sub_lem y.offset x.width) overlap) (sat_sub_lem y.offset x.width)

-- left to right, it stands by the width of y to the right of y, and if y is a copy by the overlap less far
abbrev pub right_of : ℤ → Bool → Record → ℤ
right_of overlap copy y = cond copy (sat_sub_lem (sat_add_lem y.offset y.width) overlap) (sat_add_lem y.offset y.width)

-- either, of x and the neighbour y that came before it: whether y is a copy, whether x is
abbrev pub beside : Bool → ℕ → Bool → Bool → Record → Record → ℤ
beside rtl o copied copy y x = cond rtl (left_of (pos o) copy y x) (right_of (pos o) copied y)

-- A run of n tiles with c copies of each repeating one, which overlap by o, begins at the offset `start`; its records come in the output as `out` says.
pub record RunStands (rtl : Bool) (n c o : ℕ) (start : ℤ) (tile out : ℕ → Record) : Type 0 where
  -- each tile is followed by its copies, which keep its five numbers
  pub same : (k m : ℕ) → k < n → m ≤ extra tile c k → kept (out (spot tile c k + m)) ≡ kept (tile k)
  -- the first one stands at the start, right to left less its width
  pub first : (out 0).offset ≡ cond rtl (sat_sub_lem start (out 0).width) start
  -- a copy stands beside its tile or the copy before it
  pub copy : (k m : ℕ) → k < n → m < extra tile c k → (out (suc (spot tile c k + m))).offset ≡ beside rtl o (ltb 0 m) true (out (spot tile c k + m)) (out (suc (spot tile c k + m)))
  -- and every other tile beside the one before it, or the last copy of that
  pub next : (k : ℕ) → suc k < n → (out (spot tile c (suc k))).offset ≡ beside rtl o (ltb 0 (extra tile c k)) false (out (spot tile c (suc k) - 1)) (out (spot tile c (suc k)))

-- The tiles of a run and their copies stand one behind the other. A run that begins at place i of the line begins in the output as many places later as the runs before it have added.
abbrev pub TilesStand : Type 0
TilesStand =
    (q : StretchRequest) (output : Columns) (r : Answer) (left : Columns) → Stretching q output r left → said r ≡ 0 → q.recorded ≡ true
    → let w = work q.rtl q.line in
    (copies : ℕ → ℕ) → Numbered w copies → (i : ℕ) → begins w i ≡ true
    → let l = drop i w in
    (o : ℕ) → Lapped l (copies i) o
    → RunStands q.rtl (length (run l)) (copies i) o (opening (room l) (repeating_width l) (copies i))
    (λ (k : ℕ). comes q.rtl (length q.line.actions) q.line (i + k))
    (λ (k : ℕ). comes q.rtl (length_said r) left (i + total (added_at w copies) i + k))
