-- Small lines stretched, computed: document 01's worked examples, tiles of a width below 0, the largest numbers, and what a refused call leaves.
-- Assumes nothing.
use mathlib.Core.Path.{◌≡◌, refl}
use mathlib.Core.Bool.{Bool, true, false}
use mathlib.Core.List.{List, [], ◌∷◌, map}
use Prim.Native.Nat.{ℕ}
use lib.IntN.{ℤ, pos, negsuc}
use Rattle.refusals.specs.Left.{After}
use Rattle.letters.specs.Categories.{Cf, Lo}
use Rattle.letters.specs.Actions.{none, fixed, repeating}
use Rattle.fitting.specs.Saturating.{clamped, sat_add_lem, sat_sub_lem}
use Rattle.fitting.specs.Fit.{count, whole, added, copies, excess, squeezed, overlap, start}
use Rattle.runs.specs.Records.{Record, listed, line_of, columns_of}
use Rattle.runs.specs.Runs.{tile_action, word_numbers, sum, room, repeating_width, tiles}
use Rattle.runs.specs.Stretched.{in_order, pieces, run_pieces, next, moved, offset_at, placed, placed_run, worked, stretched}
use Rattle.stretching.specs.Stretching.{stretch_request, stretch_outcome, stretched_limit, stretch_refusal, stretch_after}

-- a letter of an advance, and a tile of an action and a width
abbrev letter : ℤ → Record
letter advance = record { glyph = 1; width = advance; category = Lo; ignorable = 0; action = none; advance = advance; offset = pos 0 }

abbrev tile : ℕ → ℤ → Record
tile action width = record { glyph = 2; width = width; category = Cf; ignorable = 0; action = action; advance = width; offset = pos 0 }

-- a line becomes one of these offsets
abbrev Offsets : Bool → List Record → List ℤ → Type 0
Offsets rtl l offsets = map (λ (r : Record). r.offset) (stretched rtl l) ≡ offsets

-- "Fixed tile 13 after advance 10: offset -14"
pub fixed_13 : Offsets true (letter (pos 10) ∷ tile fixed (pos 13) ∷ []) (pos 0 ∷ negsuc 13 ∷ [])
unfolding clamped sat_add_lem sat_sub_lem count whole added copies excess squeezed overlap start tile_action word_numbers sum room repeating_width tiles in_order pieces run_pieces next moved offset_at placed placed_run worked stretched
fixed_13 = refl

-- "Repeating tile 0: two records at offset 5"
pub tile_0 : Offsets true (letter (pos 10) ∷ tile repeating (pos 0) ∷ []) (pos 0 ∷ pos 5 ∷ pos 5 ∷ [])
unfolding clamped sat_add_lem sat_sub_lem count whole added copies excess squeezed overlap start tile_action word_numbers sum room repeating_width tiles in_order pieces run_pieces next moved offset_at placed placed_run worked stretched
tile_0 = refl

-- "left to right, tile 4 then that word gives 0 4 7"
pub tile_4_first : Offsets false (tile repeating (pos 4) ∷ letter (pos 10) ∷ []) (pos 0 ∷ pos 4 ∷ pos 7 ∷ pos 0 ∷ [])
unfolding clamped sat_add_lem sat_sub_lem count whole added copies excess squeezed overlap start tile_action word_numbers sum room repeating_width tiles in_order pieces run_pieces next moved offset_at placed placed_run worked stretched
tile_4_first = refl

-- a tile of -4: a copy is added, and nothing exceeds the room
pub tile-minus_4 : Offsets true (letter (pos 10) ∷ tile repeating (negsuc 3) ∷ []) (pos 0 ∷ pos 13 ∷ pos 9 ∷ [])
unfolding clamped sat_add_lem sat_sub_lem count whole added copies excess squeezed overlap start tile_action word_numbers sum room repeating_width tiles in_order pieces run_pieces next moved offset_at placed placed_run worked stretched
tile-minus_4 = refl

-- so does one alone, without a word
pub tile-minus_4_alone : Offsets true (tile repeating (negsuc 3) ∷ []) (pos 8 ∷ pos 4 ∷ [])
unfolding clamped sat_add_lem sat_sub_lem count whole added copies excess squeezed overlap start tile_action word_numbers sum room repeating_width tiles in_order pieces run_pieces next moved offset_at placed placed_run worked stretched
tile-minus_4_alone = refl

-- the largest advance, and a tile of 2 ^ 30: products are exact
pub largest : Offsets true (letter (pos 2147483647) ∷ tile repeating (pos 1073741824) ∷ []) (pos 0 ∷ negsuc 2147483646 ∷ negsuc 1073741823 ∷ [])
unfolding clamped sat_add_lem sat_sub_lem count whole added copies excess squeezed overlap start tile_action word_numbers sum room repeating_width tiles in_order pieces run_pieces next moved offset_at placed placed_run worked stretched
largest = refl

-- an output of two places, where the stretched line has three: refused, and as it was
abbrev two : List Record
two = letter (pos 10) ∷ tile repeating (pos 5) ∷ []

pub no_room : stretch_after stretched_limit (stretch_request true true (columns_of two)) (columns_of two) ≡ After 8 (stretch_outcome 0 (columns_of two))
unfolding stretch_refusal listed line_of clamped sat_add_lem sat_sub_lem count whole added copies excess squeezed overlap start tile_action word_numbers sum room repeating_width tiles in_order pieces run_pieces next moved offset_at placed placed_run worked stretched
no_room = refl

-- nothing recorded: the same line fits as it is
pub not-recorded : stretch_after stretched_limit (stretch_request false true (columns_of two)) (columns_of two) ≡ After 0 (stretch_outcome 2 (columns_of two))
unfolding stretch_refusal listed line_of
not-recorded = refl
