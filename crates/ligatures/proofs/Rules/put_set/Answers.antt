-- `ligatures::Rules::put_set` meets its contract: what is written, with the offsets and rules to come, is the whole set.
-- Assumes nothing.
use mathlib.Core.List.{[], ◌∷◌}
use Prim.Native.Nat.{◌+◌, ◌-◌, ◌*◌, ◌≤◌}
use native.Mathlib.Omega.{arith}
use lib.ListN.{length}
use Rattle.layouts.specs.Tables.{rule_words}
use Rattle.ligatures.specs.Places.{rule_at}
use Rattle.ligatures.proofs.ApartLaws.{room-first, room_third}
use Rattle.ligatures.proofs.TurnLaws.{count_fits, set_long, set-begins, rule-next, rule_turn, set-ends}
use Rattle.ligatures.proofs.Rules.put_set.Goals as goal
use Rattle.ligatures.proofs.Rules.put_set.Goals.{Start}

-- the count and the offsets are before the set's end
long : (s : Start) → s.args.at + 2 + 2 * (s.args.e - s.args.i) ≤ length s.args.area.now
long s = omega (arith, s.requires.3, set_long s.args.self.n s.args.self.components.now s.args.self.ligatures.now s.args.i s.args.e s.requires.1)

pub overflow_cast-count : goal.overflow_cast-count
overflow_cast-count c =
    omega (arith, count_fits c.args.self.n c.args.self.components.now c.args.self.ligatures.now c.args.i c.args.e c.requires.1 c.requires.2)

pub put_u16-offset-requires : goal.put_u16-offset-requires
put_u16-offset-requires c =
    omega (arith, long (search))

pub loop-k-init : goal.loop-k-init
loop-k-init c =
    set-begins c.args.self.n c.args.self.components.now c.args.self.ligatures.now c.args.i c.args.e c.requires.1 c.requires.2 c.requires.3 c.put_u16-offset.ensures c.requires.0

pub overflow_cast-rule : goal.overflow_cast-rule
overflow_cast-rule c =
    omega (arith, (rule-next c.loop-k.invariant (omega (arith, c.loop-k-test.true)) c.requires.1).small)

pub put_u16-offset-requires-in-loop-k : goal.put_u16-offset-requires-in-loop-k
put_u16-offset-requires-in-loop-k c =
    room-first ((c.loop-k.rule - c.args.at) ∷ []) _ (rule-next c.loop-k.invariant (omega (arith, c.loop-k-test.true)) c.requires.1).coming

pub put_rule-rule-requires : goal.put_rule-rule-requires
put_rule-rule-requires c =
    let r = rule-next c.loop-k.invariant (omega (arith, c.loop-k-test.true)) c.requires.1 in (
      omega (arith, c.loop-k-test.true, c.requires.1),
      omega (arith, c.put_u16-offset-in-loop-k.ensures.same, room_third (rule_words c.args.self.n (rule_at c.args.self.n c.args.self.components.now c.args.self.ligatures.now c.loop-k.k)) _ r.coming),
    )

pub loop-k-preserved : goal.loop-k-preserved
loop-k-preserved c =
    rule_turn c.loop-k.invariant (omega (arith, c.loop-k-test.true)) c.requires.1 c.put_u16-offset-in-loop-k.ensures c.put_rule-rule.ensures _ (omega arith)

pub returns : goal.returns
returns c =
    set-ends c.args.self.n c.args.self.components.now c.args.self.ligatures.now c.args.i c.args.e c.requires.1 c.requires.2 c.requires.3 c.put_u16-offset.ensures (omega (arith, c.loop-k-test.false)) c.loop-k.invariant
