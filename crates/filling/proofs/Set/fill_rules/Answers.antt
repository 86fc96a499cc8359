-- `filling::Set::fill_rules` meets its contract.
-- Assumes nothing.
use native.Mathlib.Omega.{arith}
use mathlib.Core.Path.{◌≡◌}
use Prim.Native.Nat.{◌+◌, ◌-◌, ◌*◌, ◌<◌, ◌≤◌}
use lib.ListN.{length}
use Rattle.filling.proofs.FillLaws.{going_fits, going_next, going_ends}
use Rattle.filling.proofs.Set.fill_rules.Goals as goal
use Rattle.filling.proofs.Set.fill_rules.Goals.{In-loop-j}

-- there is room for the next rule
room : (l : In-loop-j) → (l.loop-j.p + (2 + 2 * l.args.self.n) ≤ length l.args.self.bytes.now) × ((l.loop-j.y + l.args.self.n ≤ length l.loop-j.components) × (l.loop-j.j < length l.loop-j.ligatures))
room l =
    let a = l.args in
    going_fits a.self.n a.self.lead a.c a.self.bytes.now a.at a.components.now a.x a.ligatures.now a.i (a.i + a.c - l.loop-j.j) l.loop-j.p l.loop-j.y l.loop-j.j l.loop-j.components l.loop-j.ligatures l.loop-j.invariant
    (omega (arith, l.loop-j-test.true)) (omega (arith, l.args.self.low)) l.requires.1 l.requires.2 l.requires.0

pub fill_rule-requires : goal.fill_rule-requires
fill_rule-requires c =
    let r = room (goal.at.fill_rule-requires c).In-loop-j in
    (r.0, r.1.0)

pub loop-j-preserved : goal.loop-j-preserved
loop-j-preserved c =
    let a = c.args in
    let l = c.loop-j in
    let less : a.i + a.c - l.j - 1 ≡ a.i + a.c - (l.j + 1) = omega arith in
    let next =
    going_next a.self.n a.self.lead a.c a.self.bytes.now a.at a.components.now a.x a.ligatures.now a.i (a.i + a.c - l.j) l.p l.y l.j l.components l.ligatures l.invariant
    (omega (arith, c.loop-j-test.true)) (omega (arith, c.args.self.low)) c.requires.1 c.requires.2 _ c.fill_rule.ensures c.u16_at.result c.u16_at.ensures
    in
    rw less at next

pub returns : goal.returns
returns c =
    let a = c.args in
    let l = c.loop-j in
    going_ends a.self.n a.self.lead a.c a.self.bytes.now a.at a.components.now a.x a.ligatures.now a.i (a.i + a.c - l.j) l.p l.y l.j l.components l.ligatures l.invariant (omega (arith, c.loop-j-test.false))
