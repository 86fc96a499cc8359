-- `placing::place_run` meets its contract: the tiles still to come make the columns what they are to be.
-- Assumes nothing.
use mathlib.Core.Path.{refl}
use Prim.Native.Nat.{◌+◌, ◌<◌, ◌≤◌}
use native.Mathlib.Omega.{arith}
use lib.ListN.{length}
use mir.Syntax.{w32}
use mir.Val.{SFits, to_z}
use Rattle.fitting.proofs.SignedLaws.{back}
use Rattle.runs.specs.Records.{columns_read, record_at, kept}
use Rattle.runs.proofs.RecordLaws.{spot-below}
use Rattle.placing.specs.Placed.{pieces_from}
use Rattle.copying.proofs.ColumnsLaws.{roomy-same}
use Rattle.placing.proofs.RunLaws.{running_starts, running_fits, running_next, running_ends, tile-is}
use borrow.Author.Rules.{rules}
use Rattle.placing.proofs.place_run.Goals as goal
use Rattle.placing.proofs.place_run.Goals.{After-part-p, After-times_of-times}

-- the place is one of the line
spot : (c : After-part-p) → c.part-p.result < length c.args.line.actions.now
spot c =
    rw c.part-p.ensures (spot-below c.args.rtl (length c.args.line.actions.now) c.loop-i.i (omega (arith, c.loop-i-test.true, c.requires.inside)))

-- the tile there has room, with its copies
tile-fits : (c : After-times_of-times) → c.loop-i.next + (1 + c.times_of-times.result) ≤ c.args.m
unfolding pieces_from
tile-fits c =
    let overlap-fits : SFits w32 c.args.run.overlap = search rules in
    let a = c.args in
    let p = c.part-p in
    running_fits a.rtl a.m (columns_read a.line) _ a.run.past a.run.copies _ _ _ c.loop-i.i c.loop-i.next (to_z w32 c.loop-i.x-bits) _ c.loop-i.invariant c.requires.inside (rw (back overlap-fits) c.requires.there) c.loop-i-test.true
    p.result p.ensures (kept (record_at (columns_read a.line) p.result)) refl c.times_of-times.result c.times_of-times.ensures

pub loop-i-init : goal.loop-i-init
loop-i-init c =
    running_starts _ _ _ _ c.args.k c.args.at _ _ _ _ c.requires.begun

pub bounds-line-p : goal.bounds-line-p
bounds-line-p c = omega (arith, spot (goal.at.bounds-line-p c).After-part-p)

pub at-width-requires : goal.at-width-requires
at-width-requires c =
    omega (arith, spot (goal.at.at-width-requires c).After-part-p, c.requires.even.tile_widths)

pub offset_bounds-line-p : goal.offset_bounds-line-p
offset_bounds-line-p c =
    omega (arith, spot (goal.at.offset_bounds-line-p c).After-part-p, c.requires.even.tile_glyphs)

pub bounds-line-p-in-loop-i : goal.bounds-line-p-in-loop-i
bounds-line-p-in-loop-i c =
    omega (arith, spot (goal.at.bounds-line-p-in-loop-i c).After-part-p, c.requires.even.tile_glyphs)

pub bounds-line-p-in-loop-i-2 : goal.bounds-line-p-in-loop-i-2
bounds-line-p-in-loop-i-2 c =
    omega (arith, spot (goal.at.bounds-line-p-in-loop-i-2 c).After-part-p, c.requires.even.tile_categories)

pub bounds-line-p-in-loop-i-3 : goal.bounds-line-p-in-loop-i-3
bounds-line-p-in-loop-i-3 c =
    omega (arith, spot (goal.at.bounds-line-p-in-loop-i-3 c).After-part-p, c.requires.even.tile_ignorables)

pub place_tile-x-requires : goal.place_tile-x-requires
place_tile-x-requires c =
    record { times_bound = tile-fits (goal.at.place_tile-x-requires c).After-times_of-times; roomy = roomy-same c.loop-i.invariant.same c.requires.room }

pub overflow_add-next : goal.overflow_add-next
overflow_add-next c =
    record { fits = omega (arith, tile-fits (goal.at.overflow_add-next c).After-times_of-times, c.ranges.m) }

pub overflow_add-next-in-loop-i : goal.overflow_add-next-in-loop-i
overflow_add-next-in-loop-i c =
    record { fits = omega (arith, tile-fits (goal.at.overflow_add-next-in-loop-i c).After-times_of-times, c.ranges.m) }

pub loop-i-preserved : goal.loop-i-preserved
unfolding pieces_from
loop-i-preserved c =
    let overlap-fits : SFits w32 c.args.run.overlap = search rules in
    let a = c.args in
    let p = c.part-p in
    let width_fits : SFits w32 c.at-width.result = record { sfits = c.at-width.type_inv } in
    let x_fits : SFits w32 c.place_tile-x.result = record { sfits = c.place_tile-x.type_inv } in
    rw (back x_fits) (running_next a.rtl a.m (columns_read a.line) _ a.run.past a.run.copies _ _ _ c.loop-i.i c.loop-i.next (to_z w32 c.loop-i.x-bits) _ c.loop-i.invariant c.requires.inside (rw (back overlap-fits) c.requires.there) c.loop-i-test.true
    p.result p.ensures _ (tile-is (rw (back width_fits) c.at-width.ensures)) c.times_of-times.result c.times_of-times.ensures c.requires.room
    c.place_tile-x.result c.place_tile-x.ensures.next _ c.place_tile-x.ensures.placed)

pub returns : goal.returns
unfolding pieces_from
returns c =
    let overlap-fits : SFits w32 c.args.run.overlap = search rules in
    let start_fits : SFits w32 c.args.run.start = search rules in
    let a = c.args in
    let e = running_ends a.rtl a.m (columns_read a.line) _ a.run.past a.run.copies _ _ _ c.loop-i.i c.loop-i.next (to_z w32 c.loop-i.x-bits) _ c.loop-i.invariant c.requires.inside (rw (back overlap-fits) c.requires.there) c.loop-i-test.false in
    let f = rw (back start_fits, back overlap-fits) at e in
    record { comes_then = f.0; pieces_laid = f.1 }
