-- How the repeating tiles of a run, w wide together, fill the room (document 01, "Stretching"): `count` a number as a count; `whole` the copies that
-- fit whole; `added` whether one more is added; `copies` both; `excess`, `squeezed` by how much these exceed the room, and whether they do;
-- `overlap` by how much each copy overlaps; `start` where the offsets start; `fit_of` the three together.
-- Sums and products are exact here: those that saturate are the widths', the room's and the steps of the offsets.
-- Assumes nothing.
use Rattle.std.specs.Prelude.{ℕ, ◌+◌, ◌-◌, ◌*◌, Bool, cond, ◌&&◌, ltb, ℤ, pos, negsuc, ◌-ℤ◌, ◌*ℤ◌}
use Rattle.std.specs.Int.Signed.{lt_z, quot_z}
use Rattle.fitting.specs.declared.Fit.{Fit}

-- a number as a count: 0 for one below 0
unfoldable pub count : ℤ → ℕ
count (pos n) = n
count (negsuc n) = 0

-- "If room exceeds the repeating width w and w is above 0, copies = room / w - 1, else 0"
unfoldable pub whole : ℤ → ℤ → ℕ
whole room w = cond (lt_z w room && lt_z (pos 0) w) (count (quot_z room w) - 1) 0

-- "If room still exceeds w × (copies + 1) and the run has tiles, .., one copy is added"
unfoldable pub added : ℤ → ℤ → ℕ → Bool
added room w tiles = lt_z (w *ℤ pos (whole room w + 1)) room && ltb 0 tiles

unfoldable pub copies : ℤ → ℤ → ℕ → ℕ
copies room w tiles = cond (added room w tiles) (whole room w + 1) (whole room w)

-- (copies + 1) × w less room
unfoldable pub excess : ℤ → ℤ → ℕ → ℤ
excess room w tiles = pos (copies room w tiles + 1) *ℤ w -ℤ room

-- "then, if (copies + 1) × w exceeds room": only where a copy was added
unfoldable pub squeezed : ℤ → ℤ → ℕ → Bool
squeezed room w tiles = added room w tiles && lt_z room (pos (copies room w tiles + 1) *ℤ w)

-- "overlap = excess / (copies × tiles)"; 0 where nothing is squeezed
unfoldable pub overlap : ℤ → ℤ → ℕ → ℤ
overlap room w tiles = cond (squeezed room w tiles) (quot_z (excess room w tiles) (pos (copies room w tiles * tiles))) (pos 0)

-- "and room becomes 0. Offsets start at room / 2, towards zero"
unfoldable pub start : ℤ → ℤ → ℕ → ℤ
start room w tiles = quot_z (cond (squeezed room w tiles) (pos 0) room) (pos 2)

-- tiles that are not squeezed: so many copies, no overlap, from half the room
unfoldable pub loose_fit : ℤ → ℕ → Fit
loose_fit room n = record { copies = n; overlap = pos 0; start = quot_z room (pos 2) }

unfoldable pub fit_of : ℤ → ℤ → ℕ → Fit
fit_of room w tiles =
    record { copies = copies room w tiles; overlap = overlap room w tiles; start = start room w tiles }
