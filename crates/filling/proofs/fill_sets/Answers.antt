-- `filling::fill_sets` meets its contract.
-- Assumes nothing.
use native.Mathlib.Omega.{arith}
use mathlib.Core.Path.{◌≡◌, ◌∙◌}
use Prim.Native.Nat.{◌+◌, ◌-◌, ◌*◌, ◌<◌, ◌≤◌}
use lib.ListN.{length}
use Rattle.scanning.specs.Grammar.{set_size}
use Rattle.filling.proofs.SetsLaws.{filling_reads, filling_fits, filling_next, filling_ends}
use Rattle.filling.proofs.fill_sets.Goals as goal
use Rattle.filling.proofs.fill_sets.Goals.{After-u16_at-lead, In-loop-k}

-- the next count and first glyph are in the bytes
reads-next : (c : In-loop-k) → (c.loop-k.p + 2 ≤ length c.args.bytes.now) × (18 + 2 * c.args.s + 2 * c.loop-k.k + 2 ≤ length c.args.bytes.now)
reads-next c =
    let a = c.args in
    filling_reads a.n a.s a.bytes.now a.components.now a.ligatures.now (c.args.s - c.loop-k.k) (18 + 2 * c.args.s + 2 * c.loop-k.k) c.loop-k.p c.loop-k.x c.loop-k.i c.loop-k.components c.loop-k.ligatures c.loop-k.invariant
    (omega (arith, c.loop-k-test.true)) (omega (arith, c.requires.le_n.0)) c.requires.le_n.3

-- the next set is in the bytes, and its rules have room, with those behind them
fits : (u : After-u16_at-lead) → (u.loop-k.p + set_size u.args.n u.from-c.result ≤ length u.args.bytes.now) × ((u.loop-k.x + u.from-c.result * u.args.n ≤ length u.loop-k.components) × (u.loop-k.i + u.from-c.result ≤ length u.loop-k.ligatures))
fits u =
    let a = u.args in
    let f =
    filling_fits a.n a.s a.bytes.now a.components.now a.ligatures.now (u.args.s - u.loop-k.k) (18 + 2 * u.args.s + 2 * u.loop-k.k) u.loop-k.p u.loop-k.x u.loop-k.i u.loop-k.components u.loop-k.ligatures u.loop-k.invariant
    (omega (arith, u.loop-k-test.true)) (omega (arith, u.requires.le_n.0)) u.requires.le_n.3 u.from-c.result u.u16_at-lead.result (u.from-c.ensures ∙ u.u16_at.ensures) u.u16_at-lead.ensures
    in
    (f.0, (omega (arith, f.1.0), omega (arith, f.1.1)))

-- so these places are such as memory has
near : (u : After-u16_at-lead) → (u.loop-k.p + set_size u.args.n u.from-c.result < 9223372036854775808) × (u.loop-k.x + u.from-c.result * u.args.n < 9223372036854775808) × (u.loop-k.i + u.from-c.result < 9223372036854775808)
near u =
    let f = fits u in
    let g = u.loop-k.invariant in
    (omega (arith, f.0), omega (arith, f.1.0, g.long), omega (arith, f.1.1, g.wide))

pub u16_at-requires : goal.u16_at-requires
u16_at-requires c = omega (arith, (reads-next (goal.at.u16_at-requires c).In-loop-k).0)

pub u16_at-lead-requires : goal.u16_at-lead-requires
u16_at-lead-requires c = omega (arith, (reads-next (goal.at.u16_at-lead-requires c).In-loop-k).1)

pub overflow_add-p-in-loop-k : goal.overflow_add-p-in-loop-k
overflow_add-p-in-loop-k c = omega (arith, (near (goal.at.overflow_add-p-in-loop-k c).After-u16_at-lead).0)

pub overflow_add-p-in-loop-k-2 : goal.overflow_add-p-in-loop-k-2
overflow_add-p-in-loop-k-2 c = omega (arith, (near (goal.at.overflow_add-p-in-loop-k-2 c).After-u16_at-lead).0)

pub fill_rules-requires : goal.fill_rules-requires
fill_rules-requires c =
    let f = fits (goal.at.fill_rules-requires c).After-u16_at-lead in
    (omega (arith, f.0), omega (arith, f.1.0), omega (arith, f.1.1))

pub overflow_add-p-in-loop-k-5 : goal.overflow_add-p-in-loop-k-5
overflow_add-p-in-loop-k-5 c =
    omega (arith, (near (goal.at.overflow_add-p-in-loop-k-5 c).After-u16_at-lead).0)

pub loop-k-preserved : goal.loop-k-preserved
loop-k-preserved c =
    let a = c.args in
    let less : a.s - c.loop-k.k - 1 ≡ a.s - (c.loop-k.k + 1) = omega arith in
    let on : 18 + 2 * a.s + 2 * c.loop-k.k + 2 ≡ 18 + 2 * a.s + 2 * (c.loop-k.k + 1) = omega arith in
    let next =
    filling_next a.n a.s a.bytes.now a.components.now a.ligatures.now (c.args.s - c.loop-k.k) (18 + 2 * c.args.s + 2 * c.loop-k.k) c.loop-k.p c.loop-k.x c.loop-k.i c.loop-k.components c.loop-k.ligatures c.loop-k.invariant
    (omega (arith, c.loop-k-test.true)) (omega (arith, c.requires.le_n.0)) c.requires.le_n.3 c.from-c.result c.u16_at-lead.result (c.from-c.ensures ∙ c.u16_at.ensures) c.u16_at-lead.ensures _ _ c.fill_rules.ensures
    in
    rw (less, on) at next

pub returns : goal.returns
returns c =
    let a = c.args in
    filling_ends a.n a.s a.bytes.now a.components.now a.ligatures.now (c.args.s - c.loop-k.k) (18 + 2 * c.args.s + 2 * c.loop-k.k) c.loop-k.p c.loop-k.x c.loop-k.i c.loop-k.components c.loop-k.ligatures c.loop-k.invariant (omega (arith, c.loop-k-test.false))
