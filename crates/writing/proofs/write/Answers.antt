-- `writing::write` meets its contract: what the records still to come become makes the columns what they are to be.
-- Assumes nothing.
use mathlib.Core.Path.{refl}
use mathlib.Core.List.{List}
use lib.IntN.{ℤ}
use Prim.Native.Nat.{ℕ}
use native.Mathlib.Omega.{arith}
use Rattle.runs.specs.Records.{columns, columns_read}
use Rattle.runs.specs.Measured.{Lent}
use Rattle.copying.proofs.ColumnsLaws.{roomy-same}
use Rattle.writing.proofs.WriteLaws.{writing-starts, next_fits, past_fits, past-above, kept-fits, room-kept, run-has-room, writing-next, writing-ends}
use Rattle.writing.proofs.write.Goals as goal

-- the columns that a run is measured by
lent-all : (gs : List ℕ) (ws : List ℤ) (cs us ts : List ℕ) (vs os : List ℤ) → Lent (columns gs ws cs us ts vs os) ws cs us ts vs
lent-all gs ws cs us ts vs os = record { has_widths = refl; has_categories = refl; has_ignorables = refl; has_actions = refl; has_advances = refl }

pub loop-k-init : goal.loop-k-init
loop-k-init c =
    writing-starts _ _ _ _ c.requires.long

pub next_run-next-requires : goal.next_run-next-requires
next_run-next-requires c =
    record { from_in_bounds = c.loop-k.invariant.fits; actions_value = c.requires.known }

pub overflow_sub-s : goal.overflow_sub-s
overflow_sub-s c =
    let a = c.args in
    omega (arith, c.next_run-next.ensures (columns_read a.line) refl)

pub keep-requires : goal.keep-requires
keep-requires c =
    let a = c.args in
    let fit = kept-fits a.rtl a.m (columns_read a.line) _ _ c.loop-k.k c.loop-k.at _ c.loop-k.invariant c.next_run-next.result (c.next_run-next.ensures (columns_read a.line) refl) in
    record { inside = fit.0; there = fit.1; even = c.requires.even; room = roomy-same c.loop-k.invariant.same c.requires.room }

pub measured_at-run-requires : goal.measured_at-run-requires
measured_at-run-requires c =
    let a = c.args in
    let e = c.requires.even in
    record { from_in_bounds = next_fits a.rtl a.m (columns_read a.line) _ _ c.loop-k.k c.loop-k.at _ c.loop-k.invariant c.next_run-next.result (c.next_run-next.ensures (columns_read a.line) refl); actions_len_bound = c.requires.few; even = record { even_widths = e.even_widths; even_categories = e.even_categories; even_ignorables = e.even_ignorables; even_advances = e.even_advances } }

pub overflow_add-at : goal.overflow_add-at
overflow_add-at c =
    let a = c.args in
    record { fits = omega (arith, (kept-fits a.rtl a.m (columns_read a.line) _ _ c.loop-k.k c.loop-k.at _ c.loop-k.invariant c.next_run-next.result (c.next_run-next.ensures (columns_read a.line) refl)).1, c.ranges.m) }

pub place_run-at-requires : goal.place_run-at-requires
place_run-at-requires c =
    let a = c.args in
    let e = c.requires.even in
    let fit = past_fits a.rtl a.m (columns_read a.line) _ _ c.loop-k.k c.loop-k.at _ c.loop-k.invariant c.next_run-next.result (c.next_run-next.ensures (columns_read a.line) refl) c.measured_at-run.result (c.measured_at-run.ensures (columns_read a.line) (lent-all _ _ _ _ _ _ _)) in
    record {
      begun = fit.0;
      inside = fit.1;
      even = record { tile_glyphs = e.even_glyphs; tile_widths = e.even_widths; tile_categories = e.even_categories; tile_ignorables = e.even_ignorables };
      there = run-has-room a.rtl a.m (columns_read a.line) _ _ c.loop-k.k c.loop-k.at _ c.loop-k.invariant c.next_run-next.result (c.next_run-next.ensures (columns_read a.line) refl) c.measured_at-run.result (c.measured_at-run.ensures (columns_read a.line) (lent-all _ _ _ _ _ _ _));
      room = room-kept a.rtl a.m (columns_read a.line) _ _ c.loop-k.k c.loop-k.at _ c.loop-k.invariant c.next_run-next.result (c.next_run-next.ensures (columns_read a.line) refl) c.requires.room _ c.keep.ensures;
    }

pub loop-k-smaller : goal.loop-k-smaller
loop-k-smaller c =
    let a = c.args in
    omega (arith, past-above a.rtl a.m (columns_read a.line) _ _ c.loop-k.k c.loop-k.at _ c.loop-k.invariant c.next_run-next.result (c.next_run-next.ensures (columns_read a.line) refl) c.measured_at-run.result (c.measured_at-run.ensures (columns_read a.line) (lent-all _ _ _ _ _ _ _)) c.loop-k-test.true, (past_fits a.rtl a.m (columns_read a.line) _ _ c.loop-k.k c.loop-k.at _ c.loop-k.invariant c.next_run-next.result (c.next_run-next.ensures (columns_read a.line) refl) c.measured_at-run.result (c.measured_at-run.ensures (columns_read a.line) (lent-all _ _ _ _ _ _ _))).1)

pub loop-k-preserved : goal.loop-k-preserved
loop-k-preserved c =
    let a = c.args in
    writing-next a.rtl a.m (columns_read a.line) _ _ c.loop-k.k c.loop-k.at _ c.loop-k.invariant c.next_run-next.result (c.next_run-next.ensures (columns_read a.line) refl) c.measured_at-run.result (c.measured_at-run.ensures (columns_read a.line) (lent-all _ _ _ _ _ _ _)) c.requires.room _ _ c.keep.ensures c.place_run-at.ensures.pieces_laid c.place_run-at.result c.place_run-at.ensures.comes_then

pub shape_of-to_glyphs : goal.shape_of-to_glyphs
shape_of-to_glyphs c = c.loop-k.invariant.same.same_glyphs

pub shape_of-to_widths : goal.shape_of-to_widths
shape_of-to_widths c = c.loop-k.invariant.same.same_widths

pub shape_of-to_categories : goal.shape_of-to_categories
shape_of-to_categories c = c.loop-k.invariant.same.same_categories

pub shape_of-to_ignorables : goal.shape_of-to_ignorables
shape_of-to_ignorables c = c.loop-k.invariant.same.same_ignorables

pub shape_of-to_actions : goal.shape_of-to_actions
shape_of-to_actions c = c.loop-k.invariant.same.same_actions

pub shape_of-to_advances : goal.shape_of-to_advances
shape_of-to_advances c = c.loop-k.invariant.same.same_advances

pub shape_of-to_offsets : goal.shape_of-to_offsets
shape_of-to_offsets c = c.loop-k.invariant.same.same_offsets

pub returns : goal.returns
returns c =
    let a = c.args in
    writing-ends a.rtl a.m (columns_read a.line) _ _ c.loop-k.k c.loop-k.at _ c.loop-k.invariant c.loop-k-test.false
