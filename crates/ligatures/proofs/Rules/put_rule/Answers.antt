-- `ligatures::Rules::put_rule` meets its contract: the ligature, the number and the components behind the first are the rule's words.
-- Assumes nothing.
use native.Mathlib.Omega.{arith}
use mathlib.Core.Path.{◌≡◌, ap}
use Prim.Native.Nat.{◌+◌, ◌-◌, ◌*◌, ◌≤◌}
use lib.ListN.{length, drop, length-take, length-drop}
use Rattle.layouts.specs.Tables.{rule_words}
use Rattle.ligatures.specs.Places.{rule_at}
use Rattle.ligatures.proofs.PlaceLaws.{inside, rule-words, rule-written}
use Rattle.ligatures.proofs.Rules.put_rule.Goals as goal
use Rattle.ligatures.proofs.Rules.put_rule.Goals.{Start}

-- its components are in the column
there : (s : Start) → s.args.k * s.args.self.n + s.args.self.n ≤ length s.args.self.components.now
there s = inside s.args.k s.args.self.shape s.requires.0

-- how many words the rule has
long : (s : Start) → length (rule_words s.args.self.n (rule_at s.args.self.n s.args.self.components.now s.args.self.ligatures.now s.args.k)) ≡ 2 + (s.args.self.n - 1)
long s =
    let a = s.args in
    omega (arith, ap length (rule-words a.self.n a.self.components.now a.self.ligatures.now a.k), length-take (a.self.n - 1) (drop (a.k * a.self.n + 1) a.self.components.now), length-drop (a.k * a.self.n + 1) a.self.components.now, there (search))

pub put_u16-a-requires : goal.put_u16-a-requires
put_u16-a-requires c =
    omega (arith, c.requires.1, long (search))

pub put_u16-b-requires : goal.put_u16-b-requires
put_u16-b-requires c =
    omega (arith, c.requires.1, c.put_u16-a.ensures.place, c.put_u16-a.ensures.same, long (search))

pub put_others-requires : goal.put_others-requires
put_others-requires c =
    (there (search), omega (arith, c.requires.1, c.put_u16-a.ensures.place, c.put_u16-a.ensures.same, c.put_u16-b.ensures.place, c.put_u16-b.ensures.same, long (search)))

pub returns : goal.returns
returns c =
    rule-written c.args.self.n c.args.self.components.now c.args.self.ligatures.now c.args.k c.requires.1 c.put_u16-a.ensures c.put_u16-b.ensures c.put_others.ensures
