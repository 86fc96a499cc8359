-- `marks::reorder` meets its contract: the walk skips, takes a block, goes on with the next pass, and ends with the passes or at the end of the part.
-- Assumes nothing.
use mathlib.Core.Path.{sym, ◌∙◌}
use Prim.Native.Nat.{◌+◌, ◌<◌, ◌≤◌}
use native.Mathlib.Omega.{arith}
use borrow.Author.Rules.{rules}
use lib.ListN.{length}
use lib.Seq.{length-take-le}
use Rattle.refusals.specs.Columns.{line_limit}
use Rattle.marks.proofs.WalkLaws.{walk-skips, walk-over, walk_breaks, walked_begins, walked_even, walked_skipping, walked_skipped, walked_inside, walked_ended, walked_on, walked_from, walked_block, walked_fits, numbered-even, walked_none, walked_takes}
use Rattle.marks.proofs.reorder.Goals as goal
use Rattle.marks.proofs.reorder.Goals.{After-number_block-j, Else-end-i}

-- the mark at hand lies in the part
inside : (c : Else-end-i) → c.loop-i.i < length c.passes.codes
inside c = walked_inside c.requires.codes_len c.passes.invariant _ _ c.loop-i.invariant c.if-end-i.false

-- the block found: it ends in the part, and all places are small
reached : (c : After-number_block-j) → (c.passes.from ≤ c.loop-i.i) × (c.loop-i.i ≤ c.number_block-j.result) × (c.number_block-j.result ≤ length c.passes.codes) × (c.args.start + length c.passes.codes ≤ line_limit)
reached c =
    let e = c.requires.codes_len in
    let w = c.passes.invariant in
    let q = c.passes-test.true in
    let s = c.loop-i.invariant in
    let b = c.number_block-j.ensures.ends in
    (walked_from e w _ _ q s b, walked_block e w _ _ q s b, walked_fits e w _ _ q s b, rw w.codes-keep c.requires.codes_bound)

-- it ends in the classes, too
fits : (c : After-number_block-j) → c.number_block-j.result ≤ length c.number_block-j.new.classes
fits c =
    rw (← numbered-even c.requires.codes_len c.passes.invariant _ _ c.passes-test.true c.loop-i.invariant c.number_block-j.ensures.ends (walked_inside c.requires.codes_len c.passes.invariant _ _ c.loop-i.invariant c.if-end-i.false) c.if-class-classes.true c.number_block-j.new.classes c.number_block-j.auto.classes c.new_class.result c.new_class.ensures c.number_block-j.ensures.renumbered) (walked_fits c.requires.codes_len c.passes.invariant _ _ c.passes-test.true c.loop-i.invariant c.number_block-j.ensures.ends)

pub passes-init : goal.passes-init
passes-init c = walked_begins _ _ _ _ _

pub loop-i-init : goal.loop-i-init
loop-i-init c =
    walked_skipping c.requires.codes_len c.passes.invariant _

pub bounds-classes-i : goal.bounds-classes-i
bounds-classes-i c =
    rw (← walked_even c.requires.codes_len c.passes.invariant) (inside (goal.at.bounds-classes-i c).Else-end-i)

pub overflow_add-i : goal.overflow_add-i
overflow_add-i c = omega (arith, inside (goal.at.overflow_add-i c).Else-end-i)

pub loop-i-smaller : goal.loop-i-smaller
loop-i-smaller c = search (rules, inside (goal.at.loop-i-smaller c).Else-end-i)

pub loop-i-preserved : goal.loop-i-preserved
loop-i-preserved c =
    walked_on c.requires.codes_len c.passes.invariant _ _ (inside (goal.at.loop-i-preserved c).Else-end-i) c.if-class-classes.false c.loop-i.invariant

pub number_block-j-requires : goal.number_block-j-requires
number_block-j-requires c =
    record { codes_len = walked_even c.requires.codes_len c.passes.invariant; i_in_bounds = walked_skipped c.requires.codes_len c.passes.invariant _ _ c.loop-i.invariant }

pub slice_bounds-bring-end : goal.slice_bounds-bring-end
slice_bounds-bring-end c = (reached (goal.at.slice_bounds-bring-end c).After-number_block-j).2

pub slice_bounds-bring-end-then-i-j : goal.slice_bounds-bring-end-then-i-j
slice_bounds-bring-end-then-i-j c =
    sym (length-take-le _ _ (reached (goal.at.slice_bounds-bring-end-then-i-j c).After-number_block-j).2)

pub slice_bounds-bring-end-then-i-j-2 : goal.slice_bounds-bring-end-then-i-j-2
slice_bounds-bring-end-then-i-j-2 c =
    fits (goal.at.slice_bounds-bring-end-then-i-j-2 c).After-number_block-j

pub slice_bounds-bring-end-then-i-j-3 : goal.slice_bounds-bring-end-then-i-j-3
slice_bounds-bring-end-then-i-j-3 c =
    sym (length-take-le _ _ (fits (goal.at.slice_bounds-bring-end-then-i-j-3 c).After-number_block-j))

pub bring-requires : goal.bring-requires
bring-requires c =
    let r = reached (goal.at.bring-requires c).After-number_block-j in
    let codes = length-take-le c.number_block-j.result c.passes.codes r.2 in
    record { codes_len = codes ∙ sym (length-take-le _ _ (fits (goal.at.bring-requires c).After-number_block-j)); a_le_n = r.0; n_in_bounds = rw codes r.1 }

pub overflow_add-start : goal.overflow_add-start
overflow_add-start c =
    let r = reached (goal.at.overflow_add-start c).After-number_block-j in omega (arith, r.0, r.1, r.2, r.3)

pub overflow_add-start-then-i-j : goal.overflow_add-start-then-i-j
overflow_add-start-then-i-j c =
    let r = reached (goal.at.overflow_add-start-then-i-j c).After-number_block-j in omega (arith, r.2, r.3)

pub with-merged-requires : goal.with-merged-requires
with-merged-requires c =
    omega (arith, c.passes.invariant.walk.few, c.passes-test.true)

pub overflow_sub-from : goal.overflow_sub-from
overflow_sub-from c =
    let r = reached (goal.at.overflow_sub-from c).After-number_block-j in omega (arith, r.0, r.1)

pub overflow_add-from : goal.overflow_add-from
overflow_add-from c =
    let r = reached (goal.at.overflow_add-from c).After-number_block-j in omega (arith, r.0, r.1, r.2, r.3)

pub overflow_add-pass : goal.overflow_add-pass
overflow_add-pass c =
    omega (arith, c.passes-test.true)

pub passes-smaller-then-i-j : goal.passes-smaller-then-i-j
passes-smaller-then-i-j c =
    search (rules, c.passes-test.true)

pub passes-preserved-then-i-j : goal.passes-preserved-then-i-j
passes-preserved-then-i-j c =
    let moved = c.bring in
    walked_takes c.requires.codes_len c.passes.invariant _ _ c.passes-test.true c.loop-i.invariant c.number_block-j.ensures.ends (inside (goal.at.passes-preserved-then-i-j c).Else-end-i) c.if-class-classes.true c.number_block-j.new.classes c.number_block-j.auto.classes c.new_class.result c.new_class.ensures c.number_block-j.ensures.renumbered c.if-i-j.true moved.new.codes moved.new.classes moved.auto.codes moved.auto.classes moved.ensures _ c.with-merged.ensures

pub overflow_add-pass-else-i-j : goal.overflow_add-pass-else-i-j
overflow_add-pass-else-i-j c =
    omega (arith, c.passes-test.true)

pub passes-smaller : goal.passes-smaller
passes-smaller c =
    search (rules, c.passes-test.true)

pub passes-preserved : goal.passes-preserved
passes-preserved c =
    walked_none c.requires.codes_len c.passes.invariant _ _ c.passes-test.true c.loop-i.invariant c.number_block-j.ensures.ends (inside (goal.at.passes-preserved c).Else-end-i) c.if-class-classes.true c.number_block-j.new.classes c.number_block-j.auto.classes c.new_class.result c.new_class.ensures c.number_block-j.ensures.renumbered c.if-i-j.false

pub shape_of-codes-after-passes : goal.shape_of-codes-after-passes
shape_of-codes-after-passes c = c.passes.invariant.codes-keep

pub shape_of-classes-after-passes : goal.shape_of-classes-after-passes
shape_of-classes-after-passes c = c.passes.invariant.classes-keep

pub returns-after-passes : goal.returns-after-passes
returns-after-passes c = let r = walk-over c.passes.invariant.walk c.passes-test.false in record { merged = r.0; moved = r.1 }

pub shape_of-codes-then-end-i : goal.shape_of-codes-then-end-i
shape_of-codes-then-end-i c = c.passes.invariant.codes-keep

pub shape_of-classes-then-end-i : goal.shape_of-classes-then-end-i
shape_of-classes-then-end-i c = c.passes.invariant.classes-keep

pub returns-then-end-i : goal.returns-then-end-i
returns-then-end-i c =
    let e = c.requires.codes_len in
    let w = c.passes.invariant in
    let r = walk_breaks (walk-skips w.walk _ c.passes-test.true c.loop-i.invariant) (walked_ended e w _ _ c.loop-i.invariant c.if-end-i.true) in
    record { merged = r.0; moved = r.1 }
