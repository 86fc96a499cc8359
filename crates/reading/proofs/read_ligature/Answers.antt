-- `reading::read_ligature` meets its contract.
-- Assumes nothing.
use native.Mathlib.Omega.{arith}
use mathlib.Core.Path.{◌≡◌, refl, ap, ◌∙◌}
use Prim.Native.Nat.{ℕ, ◌+◌, ◌-◌, ◌*◌, ◌/◌, ◌≤◌}
use native.Mathlib.Nat.{div-mul-le_self, mul-le-mul_left}
use borrow.Author.Tests.{ltb-false}
use lib.Dec.{ltb}
use lib.ListN.{length}
use Rattle.laws.proofs.TestLaws.{neither}
use Rattle.layouts.specs.Lookups.{flat}
use Rattle.recognizing.specs.Recognized.{count_at, rules_in, end_of}
use Rattle.reading.proofs.ReadLaws.{ligature-place, rules-count, parts-count, ligature-room, ligature-read}
use Rattle.reading.proofs.read_ligature.Goals as goal
use Rattle.reading.proofs.read_ligature.Goals.{After-from, Else-components-count, Start}

-- the number of sets that is read
sets-is : (u : After-from) → (u.from.result - 6) / 2 ≡ count_at u.args.bytes.now
sets-is u = ap (λ (o : ℕ). (o - 6) / 2) (u.from.ensures ∙ u.u16_at.ensures)

-- the lookup is in the bytes
begins : (s : Start) → 18 ≤ length s.args.bytes.now
begins s = omega (arith, ligature-place s.args.n s.args.bytes.now s.args.components.now s.args.ligatures.now s.requires.0 s.requires.1.0 _ refl)

place : (u : After-from) → 18 + 6 * ((u.from.result - 6) / 2) + length (rules_in u.args.n u.args.bytes.now) * (4 + 2 * u.args.n) ≤ length u.args.bytes.now
place u =
    ligature-place u.args.n u.args.bytes.now u.args.components.now u.args.ligatures.now u.requires.0 u.requires.1.0 _ (sets-is u)

-- the components are fewer than the bytes
parts-small : (u : After-from) → (length u.args.bytes.now - (18 + 6 * ((u.from.result - 6) / 2))) / (4 + 2 * u.args.n) * u.args.n ≤ length u.args.bytes.now
parts-small u =
    let a = u.args in
    let x = length a.bytes.now - (18 + 6 * ((u.from.result - 6) / 2)) in
    omega (arith, div-mul-le_self x (4 + 2 * a.n), mul-le-mul_left (x / (4 + 2 * a.n)) (more a.n))
  where
    more : (n : ℕ) → n ≤ 4 + 2 * n
    more n = omega arith

-- the columns have room
roomy : (e : Else-components-count) → (length (flat (rules_in e.args.n e.args.bytes.now)) ≤ length e.args.components.now) × (length (rules_in e.args.n e.args.bytes.now) ≤ length e.args.ligatures.now)
roomy e =
    let a = e.args in
    let n : ℕ = (length a.bytes.now - (18 + 6 * ((e.from.result - 6) / 2))) / (4 + 2 * a.n) in
    let t = neither (ltb (length a.components.now) (n * a.n)) (ltb (length a.ligatures.now) n) (rw e.from-width.ensures at e.if-components-count.false) in
    let parts = parts-count a.n a.bytes.now a.components.now a.ligatures.now e.requires.0 e.requires.1.0 _ (ap (λ (o : ℕ). (o - 6) / 2) (e.from.ensures ∙ e.u16_at.ensures)) n refl in
    let rules = rules-count a.n a.bytes.now a.components.now a.ligatures.now e.requires.0 e.requires.1.0 _ (ap (λ (o : ℕ). (o - 6) / 2) (e.from.ensures ∙ e.u16_at.ensures)) n refl in
    (omega (arith, parts, ltb-false (length a.components.now) (n * a.n) t.0), omega (arith, rules, ltb-false (length a.ligatures.now) n t.1))

pub u16_at-requires : goal.u16_at-requires
u16_at-requires c = omega (arith, begins (search))

pub overflow_sub-count : goal.overflow_sub-count
overflow_sub-count c = omega (arith, place (goal.at.overflow_sub-count c).After-from)

pub returns-then-components-count : goal.returns-then-components-count
returns-then-components-count c =
    let a = c.args in
    ligature-room a.n a.bytes.now a.components.now a.ligatures.now c.requires.0 c.requires.1.0 _ (sets-is (goal.at.returns-then-components-count c).After-from) _ refl (rw c.from-width.ensures at c.if-components-count.true)

pub fill_sets-requires : goal.fill_sets-requires
unfolding end_of
fill_sets-requires c =
    let r = roomy (goal.at.fill_sets-requires c).Else-components-count in
    rw (c.from-width.ensures, sets-is (goal.at.fill_sets-requires c).After-from) (record { le_n = (c.requires.1.0, c.requires.1.1, omega (arith, c.u16_at.type_inv, c.u16_at.ensures), c.requires.0.within); bytes_in_bounds = r })

pub u16_at-flags-requires : goal.u16_at-flags-requires
u16_at-flags-requires c =
    omega (arith, begins (search))

pub returns : goal.returns
returns c =
    let a = c.args in
    rw c.from-width.ensures
    (ligature-read a.n a.bytes.now a.components.now a.ligatures.now c.requires.0 c.requires.1.0 _ (sets-is (goal.at.returns c).After-from) _ refl (rw c.from-width.ensures at c.if-components-count.false) _ c.u16_at-flags.ensures _ _ (rw (c.from-width.ensures, sets-is (goal.at.returns c).After-from) at c.fill_sets.ensures))
