-- `answers::lined` meets its contract: the first records of columns that hold so many are a line.
-- Assumes nothing.
use Prim.Native.Nat.{◌≤◌}
use mathlib.Core.Path.{◌≡◌, sym}
use native.Mathlib.Omega.{arith}
use lib.Seq.{length-take-le}
use borrow.Author.Tests.{le-leb, lt-leb}
use Rattle.answers.specs.Output.{room, lines_text}
use Rattle.answers.proofs.AnswerLaws.{Holds, room-holds, even-front}
use Rattle.answers.proofs.lined.Goals as goal
use Rattle.answers.proofs.lined.Goals.{After-min-most, Then-n-most}

-- what was found out of the columns
roomy : (c : After-min-most) → let a = c.args in c.min-most.result ≡ room a.codes.now a.widths.now a.types.now a.categories.now
roomy c =
    rw (c.min-most.ensures, c.min-3.ensures, c.min-2.ensures, c.min.ensures)

few : (c : Then-n-most) → let a = c.args in a.n ≤ room a.codes.now a.widths.now a.types.now a.categories.now
few c =
    let a = c.args in
    let r : c.min-most.result ≡ room a.codes.now a.widths.now a.types.now a.categories.now = rw (c.min-most.ensures, c.min-3.ensures, c.min-2.ensures, c.min.ensures) in
    rw (← r) c.if-n-most.true

holds : (c : Then-n-most) → let a = c.args in Holds a.n a.codes.now a.widths.now a.types.now a.categories.now
holds c =
    let a = c.args in
    room-holds a.n a.codes.now a.widths.now a.types.now a.categories.now (few c)

pub slice_bounds-line-end : goal.slice_bounds-line-end
slice_bounds-line-end c =
    let a = c.args in
    sym (length-take-le a.n a.codes.now (holds (goal.at.slice_bounds-line-end c).Then-n-most).codes)

pub slice_bounds-line-end-then-n-most : goal.slice_bounds-line-end-then-n-most
slice_bounds-line-end-then-n-most c =
    let a = c.args in
    sym (length-take-le a.n a.widths.now (holds (goal.at.slice_bounds-line-end-then-n-most c).Then-n-most).widths)

pub slice_bounds-line-end-then-n-most-2 : goal.slice_bounds-line-end-then-n-most-2
slice_bounds-line-end-then-n-most-2 c =
    let a = c.args in
    sym (length-take-le a.n a.types.now (holds (goal.at.slice_bounds-line-end-then-n-most-2 c).Then-n-most).types)

pub slice_bounds-line-end-then-n-most-3 : goal.slice_bounds-line-end-then-n-most-3
slice_bounds-line-end-then-n-most-3 c =
    let a = c.args in
    sym (length-take-le a.n a.categories.now (holds (goal.at.slice_bounds-line-end-then-n-most-3 c).Then-n-most).categories)

pub slice_bounds-line-end-then-n-most-4 : goal.slice_bounds-line-end-then-n-most-4
slice_bounds-line-end-then-n-most-4 c =
    let a = c.args in
    sym (length-take-le a.n a.base.now (omega (arith, (holds (goal.at.slice_bounds-line-end-then-n-most-4 c).Then-n-most).few, c.requires.0)))

pub slice_bounds-line-end-then-n-most-6 : goal.slice_bounds-line-end-then-n-most-6
slice_bounds-line-end-then-n-most-6 c =
    let a = c.args in
    sym (length-take-le a.n a.actions.now (omega (arith, (holds (goal.at.slice_bounds-line-end-then-n-most-6 c).Then-n-most).few, c.requires.1)))

pub slice_bounds-line-end-then-n-most-8 : goal.slice_bounds-line-end-then-n-most-8
slice_bounds-line-end-then-n-most-8 c =
    let a = c.args in
    sym (length-take-le a.n a.masks.now (omega (arith, (holds (goal.at.slice_bounds-line-end-then-n-most-8 c).Then-n-most).few, c.requires.2)))

pub line-requires : goal.line-requires
line-requires c =
    let a = c.args in
    even-front a.n a.codes.now a.widths.now a.types.now a.categories.now a.base.now a.actions.now a.masks.now (holds (goal.at.line-requires c).Then-n-most) c.requires.0 c.requires.1 c.requires.2

pub returns-then-n-most : goal.returns-then-n-most
unfolding lines_text
returns-then-n-most c =
    rw (le-leb _ _ (few (goal.at.returns-then-n-most c).Then-n-most)) c.line.ensures

pub returns : goal.returns
unfolding lines_text
returns c =
    rw (← (roomy (goal.at.returns c).After-min-most), lt-leb _ _ c.if-n-most.false) c.refused.ensures
