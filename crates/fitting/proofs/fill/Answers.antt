-- `fitting::fill` meets its contract: in each of its cases the fit is known from the counts of room and w.
-- Assumes nothing.
use Prim.Native.Nat.{ℕ, ◌<◌, ◌≤◌, ◌*◌, ◌/◌}
use mathlib.Core.Path.{◌≡◌, sym, ◌∙◌}
use mathlib.Core.Bool.{false}
use native.Mathlib.Nat.{le_of_lt, le_trans, mod-lt, div-le_self, mul-le-mul_right, mul-le-mul_left, mul-pos}
use native.Mathlib.Omega.{arith}
use lib.IntN.{ℤ, pos}
use lib.Signed.{le_z}
use mir.Syntax.{w32, w64}
use mir.Val.{Fits, SFits}
use Rattle.fitting.specs.Fit.{count}
use Rattle.fitting.proofs.SignedLaws.{back}
use Rattle.fitting.proofs.FitLaws.{Above, loose-lent, tight-back, narrow, fit_le, fit_none, fit-one, both_pos, one-at-least, fit-even, fit-bare, fit-left}
use Rattle.fitting.proofs.fill.Goals as goal
use Rattle.fitting.proofs.fill.Goals.{Else-v-eq0, Then-v-eq0}

-- what is known where room exceeds w and w is not above 0
zero_w : (c : Then-v-eq0) → let a = c.args in (count a.w ≡ 0) × (le_z a.room a.w ≡ false)
zero_w c = (
  sym (rw (back c.ranges.w) at c.count_of-v.ensures) ∙ c.if-v-eq0.true,
  rw (back c.ranges.room, back c.ranges.w) at c.if-room-w.false,
)

-- and where w is above 0
pos_w : (c : Else-v-eq0) → let a = c.args in Above a.room a.w c.count_of-r.result c.count_of-v.result
pos_w c =
    both_pos _ _ _ _ (rw (back c.ranges.room) at c.count_of-r.ensures)
    (rw (back c.ranges.w) at c.count_of-v.ensures)
    (rw (back c.ranges.room, back c.ranges.w) at c.if-room-w.false) c.if-v-eq0.false

-- the quotient is below 2 ^ 31, and there are at most 4096 tiles
quotient : (r v t : ℕ) {z : ℤ} → z ≡ pos r → SFits w32 z → t ≤ 4096 → Fits w64 (r / v * t)
quotient r v t e f h =
    let d = div-le_self r v in
    let g : SFits w32 (pos r) = rw e at f in
    let b : r < 2147483648 = g.sfits in
    let m = mul-le-mul_right t (le_trans d (le_of_lt b)) in
    let n = mul-le-mul_left 2147483648 h in
    record { fits = omega arith }

pub returns-then-room-w : goal.returns-then-room-w
returns-then-room-w c =
    let f = c.ranges.room in
    loose-lent c.args.room c.args.w c.args.tiles 0 f c.loose.ensures (fit_le _ _ _ (rw (back f, back c.ranges.w) at c.if-room-w.true))

pub returns-then-tiles-eq0 : goal.returns-then-tiles-eq0
returns-then-tiles-eq0 c =
    let k = zero_w (goal.at.returns-then-tiles-eq0 c).Then-v-eq0 in
    loose-lent c.args.room c.args.w c.args.tiles 0 c.ranges.room c.loose-then-tiles-eq0.ensures (rw c.if-tiles-eq0.true (fit_none _ _ k.0 k.1))

pub returns-then-v-eq0 : goal.returns-then-v-eq0
returns-then-v-eq0 c =
    let k = zero_w (goal.at.returns-then-v-eq0 c).Then-v-eq0 in
    loose-lent c.args.room c.args.w c.args.tiles 1 c.ranges.room c.loose-then-v-eq0.ensures (fit-one _ _ k.0 k.1 _ (omega (arith, c.if-tiles-eq0.false)))

pub overflow_sub-q : goal.overflow_sub-q
overflow_sub-q c = let k = pos_w (goal.at.overflow_sub-q c).Else-v-eq0 in one-at-least _ _ k.some k.less

pub returns-then-left-eq0 : goal.returns-then-left-eq0
returns-then-left-eq0 c =
    let k = pos_w (goal.at.returns-then-left-eq0 c).Else-v-eq0 in
    loose-lent c.args.room c.args.w c.args.tiles _ c.ranges.room c.loose-then-left-eq0.ensures
    (rw (k.room-is, k.w_is) (fit-even _ _ k.some k.less _ c.if-left-eq0.true))

pub overflow_sub-q-then-tiles-eq0-2 : goal.overflow_sub-q-then-tiles-eq0-2
overflow_sub-q-then-tiles-eq0-2 c = let k = pos_w (goal.at.overflow_sub-q-then-tiles-eq0-2 c).Else-v-eq0 in one-at-least _ _ k.some k.less

pub returns-then-tiles-eq0-2 : goal.returns-then-tiles-eq0-2
returns-then-tiles-eq0-2 c =
    let k = pos_w (goal.at.returns-then-tiles-eq0-2 c).Else-v-eq0 in
    loose-lent c.args.room c.args.w c.args.tiles _ c.ranges.room c.loose-then-tiles-eq0-2.ensures
    (rw (k.room-is, k.w_is, c.if-tiles-eq0-2.true) (fit-bare _ _ k.some k.less))

pub overflow_sub-result : goal.overflow_sub-result
overflow_sub-result c =
    let k = pos_w (goal.at.overflow_sub-result c).Else-v-eq0 in
    le_of_lt (mod-lt c.count_of-r.result k.some)

pub overflow_mul-result : goal.overflow_mul-result
overflow_mul-result c =
    quotient _ _ _ (pos_w (goal.at.overflow_mul-result c).Else-v-eq0).room-is c.ranges.room c.requires

pub nonzero_div-result : goal.nonzero_div-result
nonzero_div-result c =
    let k = pos_w (goal.at.nonzero_div-result c).Else-v-eq0 in
    let r = c.count_of-r.result in
    let v = c.count_of-v.result in
    mul-pos (one-at-least r v k.some k.less) (omega (arith, c.if-tiles-eq0-2.false))

pub overflow_cast-result : goal.overflow_cast-result
overflow_cast-result c =
    narrow (pos_w (goal.at.overflow_cast-result c).Else-v-eq0).w_is c.ranges.w _ _

pub returns : goal.returns
returns c =
    let k = pos_w (goal.at.returns c).Else-v-eq0 in
    tight-back c.args.room c.args.w c.args.tiles _ _ (narrow k.w_is c.ranges.w _ _)
    (rw (k.room-is, k.w_is) (fit-left _ _ k.some k.less _ (omega (arith, c.if-tiles-eq0-2.false)) (omega (arith, c.if-left-eq0.false))))
