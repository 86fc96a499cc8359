-- `synthesis::ligature_rule` meets its contract.
-- Assumes nothing.
use Prim.Native.Nat.{◌+◌, ◌-◌, ◌*◌, ◌<◌}
use native.Mathlib.Omega.{arith}
use Rattle.fonts.specs.Lent.{font_lent}
use Rattle.synthesis.proofs.RowLaws.{packing_begins, packing_next, packing_fits, packing_stops, packing_ends, ligature_missing}
use Rattle.synthesis.proofs.ligature_rule.Goals as goal
use Rattle.synthesis.proofs.ligature_rule.Goals.{In_ok-part}

-- a component more is a number of 64 bits
fits : (c : In_ok-part) → c.loop-k.x * 65536 + c.in_ok-part.part.0 < 18446744073709551616
fits c =
    let a = c.args in
    let f = font_lent a.font in
    let whole = rw c.from.ensures at c.in_ok-whole.ensures in
    let next = packing_next f a.n a.components.now a.at c.requires.1 c.loop-k.invariant (c.loop-k.k - 1) (omega (arith, c.loop-k-test.true)) (rw c.from-in-loop-k.ensures at c.in_ok-part.ensures) in
    packing_fits f a.n a.components.now a.at c.requires.1 next (omega (arith, c.from-x.ensures, whole.0, whole.1)) c.requires.0

pub returns-in_err-whole : goal.returns-in_err-whole
returns-in_err-whole c =
    let a = c.args in
    rw c.from_residual.ensures
    (ligature_missing (font_lent a.font) a.n a.components.now a.at a.ligature (rw c.from.ensures at c.in_err-whole.ensures))

pub loop-k-init : goal.loop-k-init
loop-k-init c =
    let a = c.args in
    packing_begins (font_lent a.font) a.n a.components.now a.at c.requires.1 _

pub returns-in_err-part : goal.returns-in_err-part
returns-in_err-part c =
    let a = c.args in
    rw c.from_residual-in_err-part.ensures
    (packing_stops (font_lent a.font) a.n a.components.now a.at c.requires.1 c.loop-k.invariant (c.loop-k.k - 1) (omega (arith, c.loop-k-test.true)) a.ligature (rw c.from-in-loop-k.ensures at c.in_err-part.ensures))

pub overflow_mul-x : goal.overflow_mul-x
overflow_mul-x c = omega (arith, fits c)

pub overflow_add-x : goal.overflow_add-x
overflow_add-x c =
    omega (arith, fits (goal.at.overflow_add-x c).In_ok-part, c.from-in-loop-k-2.ensures)

pub loop-k-preserved : goal.loop-k-preserved
loop-k-preserved c =
    let a = c.args in
    rw c.from-in-loop-k-2.ensures
    (packing_next (font_lent a.font) a.n a.components.now a.at c.requires.1 c.loop-k.invariant (c.loop-k.k - 1) (omega (arith, c.loop-k-test.true)) (rw c.from-in-loop-k.ensures at c.in_ok-part.ensures))

pub returns : goal.returns
returns c =
    let a = c.args in
    let whole = rw c.from.ensures at c.in_ok-whole.ensures in
    packing_ends (font_lent a.font) a.n a.components.now a.at c.requires.1 c.loop-k.invariant a.ligature (omega (arith, c.loop-k-test.false)) (rw (← c.from-x.ensures) at whole)
