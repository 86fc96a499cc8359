-- Every worked example of the lists holds, by computing.
-- Assumes nothing.
use mathlib.Core.Path.{refl}
use Rattle.shapes.specs.Joining.{form}
use Rattle.masks.specs.Masks.{mask}
use Rattle.lines.specs.Joined.{refusal}
use Rattle.replacing.specs.Replaced.{replace_refusal}
use Rattle.marks.specs.Modifiers.{modifier}
use Rattle.marks.specs.Passes.{smaller, moves, passes, ranges}
use Rattle.marks.specs.Reordered.{reorder_refusal}
use Rattle.fitting.specs.Saturating.{clamped, sat_add_lem, sat_sub_lem}
use Rattle.fitting.specs.Fit.{count, whole, added, copies, excess, squeezed, overlap, start}
use Rattle.runs.specs.Records.{listed, line_of}
use Rattle.runs.specs.Runs.{tile_action, word_numbers, sum, room, repeating_width, tiles}
use Rattle.runs.specs.Stretched.{in_order, pieces, run_pieces, next, moved, offset_at, placed, placed_run, worked, stretched}
use Rattle.stretching.specs.Stretching.{stretch_refusal}
use Rattle.words.specs.Words.{bytes}
use Rattle.layouts.specs.Tables.{single}
use Rattle.layouts.specs.Lookups.{fits}
use Rattle.layouts.specs.Written.{write_refusal}
use Rattle.demands.specs.Examples.{Starred, Unstarred}

pub starred : Starred
unfolding form mask refusal modifier smaller moves passes ranges reorder_refusal clamped sat_add_lem sat_sub_lem count whole added copies excess squeezed overlap start listed line_of tile_action word_numbers sum room repeating_width tiles in_order pieces run_pieces next moved offset_at placed placed_run worked stretched stretch_refusal bytes single fits write_refusal
starred = (refl, (refl, (refl, (refl, (refl, (refl, (refl, (refl, (refl, (refl, (refl, (refl, (refl, (refl, (refl, (refl, tt))))))))))))))))

pub unstarred : Unstarred
unfolding form mask refusal replace_refusal
unstarred = (refl, (refl, tt))
