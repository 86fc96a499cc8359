-- `placing::place_tile` meets its contract: the pieces still to come make the columns what they are to be.
-- Assumes nothing.
use mathlib.Core.Path.{refl}
use Prim.Native.Nat.{◌<◌}
use native.Mathlib.Omega.{arith}
use mir.Syntax.{w32}
use mir.Val.{SFits, to_z}
use Rattle.fitting.proofs.SignedLaws.{back}
use Rattle.runs.specs.Records.{columns}
use Rattle.runs.proofs.RecordLaws.{spot-below}
use Rattle.copying.specs.Pasted.{Roomy}
use Rattle.copying.proofs.ColumnsLaws.{roomy-same}
use Rattle.placing.proofs.PlaceLaws.{laying_starts, laying_next, laying_ends}
use borrow.Author.Rules.{rules}
use Rattle.placing.proofs.place_tile.Goals as goal
use Rattle.placing.proofs.place_tile.Goals.{After-offset_of-offset}

-- the place is one of the m, for which each column has room
here : (c : After-offset_of-offset) → (c.part-o.result < c.args.m) × Roomy c.args.m (columns c.loop-j.to_glyphs c.loop-j.to_widths c.loop-j.to_categories c.loop-j.to_ignorables c.loop-j.to_actions c.loop-j.to_advances c.loop-j.to_offsets)
here c =
    (rw c.part-o.ensures (spot-below c.args.rtl c.args.m c.loop-j.j (omega (arith, c.loop-j-test.true, c.requires.times_bound))), roomy-same c.loop-j.invariant.same c.requires.roomy)

pub loop-j-init : goal.loop-j-init
loop-j-init c =
    let a = c.args in laying_starts _ _ _ _ _ _ a.at a.times _ refl

pub offset_bounds-to_glyphs-o : goal.offset_bounds-to_glyphs-o
offset_bounds-to_glyphs-o c = let h = here (goal.at.offset_bounds-to_glyphs-o c).After-offset_of-offset in omega (arith, h.0, h.1.for_glyphs)

pub bounds-to_glyphs-o : goal.bounds-to_glyphs-o
bounds-to_glyphs-o c = let h = here (goal.at.bounds-to_glyphs-o c).After-offset_of-offset in omega (arith, h.0, h.1.for_glyphs)

pub offset_bounds-to_widths-o : goal.offset_bounds-to_widths-o
offset_bounds-to_widths-o c = let h = here (goal.at.offset_bounds-to_widths-o c).After-offset_of-offset in omega (arith, h.0, h.1.for_widths)

pub bounds-to_widths-o : goal.bounds-to_widths-o
bounds-to_widths-o c = let h = here (goal.at.bounds-to_widths-o c).After-offset_of-offset in omega (arith, h.0, h.1.for_widths)

pub bounds-to_categories-o : goal.bounds-to_categories-o
bounds-to_categories-o c = let h = here (goal.at.bounds-to_categories-o c).After-offset_of-offset in omega (arith, h.0, h.1.for_categories)

pub bounds-to_ignorables-o : goal.bounds-to_ignorables-o
bounds-to_ignorables-o c = let h = here (goal.at.bounds-to_ignorables-o c).After-offset_of-offset in omega (arith, h.0, h.1.for_ignorables)

pub bounds-to_actions-o : goal.bounds-to_actions-o
bounds-to_actions-o c = let h = here (goal.at.bounds-to_actions-o c).After-offset_of-offset in omega (arith, h.0, h.1.for_actions)

pub offset_bounds-to_advances-o : goal.offset_bounds-to_advances-o
offset_bounds-to_advances-o c = let h = here (goal.at.offset_bounds-to_advances-o c).After-offset_of-offset in omega (arith, h.0, h.1.for_advances)

pub slice_set_of-to_advances : goal.slice_set_of-to_advances
slice_set_of-to_advances c = let h = here (goal.at.slice_set_of-to_advances c).After-offset_of-offset in omega (arith, h.0, h.1.for_advances)

pub offset_bounds-to_offsets-o : goal.offset_bounds-to_offsets-o
offset_bounds-to_offsets-o c = let h = here (goal.at.offset_bounds-to_offsets-o c).After-offset_of-offset in omega (arith, h.0, h.1.for_offsets)

pub bounds-to_offsets-o : goal.bounds-to_offsets-o
bounds-to_offsets-o c = let h = here (goal.at.bounds-to_offsets-o c).After-offset_of-offset in omega (arith, h.0, h.1.for_offsets)

pub loop-j-preserved : goal.loop-j-preserved
loop-j-preserved c =
    let a = c.args in
    let width_fits : SFits w32 a.tile.width = search rules in
    let y-fits : SFits w32 c.moved-y.result = record { sfits = c.moved-y.type_inv } in
    let offset-fits : SFits w32 c.offset_of-offset.result = record { sfits = c.offset_of-offset.type_inv } in
    rw (back width_fits, back y-fits, back offset-fits) (laying_next _ _ _ _ _ _ _ _ c.loop-j.j (to_z w32 c.loop-j.x-bits) (to_z w32 c.loop-j.lap-bits) _ c.loop-j.invariant c.requires.roomy (omega (arith, c.requires.times_bound)) c.loop-j-test.true c.part-o.result c.part-o.ensures c.moved-y.result c.offset_of-offset.result (rw (back width_fits) at c.moved-y.ensures) (rw (back y-fits) at c.offset_of-offset.ensures))

pub returns : goal.returns
returns c =
    let e = laying_ends _ _ _ _ _ _ _ _ c.loop-j.j (to_z w32 c.loop-j.x-bits) (to_z w32 c.loop-j.lap-bits) _ c.loop-j.invariant c.loop-j-test.false in
    let f = rw (back c.ranges.start, back c.ranges.overlap) at e in
    record { next = f.0; placed = f.1 }
