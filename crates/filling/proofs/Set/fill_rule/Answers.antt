-- `filling::Set::fill_rule` meets its contract.
-- Assumes nothing.
use native.Mathlib.Omega.{arith}
use mathlib.Core.Path.{◌≡◌, ◌∙◌}
use Prim.Native.Nat.{◌+◌}
use lib.ListN.{set}
use Rattle.filling.proofs.FillLaws.{filled, lead-filled, word-filled, rule-filled}
use Rattle.filling.proofs.Set.fill_rule.Goals as goal
use Rattle.filling.proofs.Set.fill_rule.Goals.{After-u16_at}

-- the first glyph, and one word behind it
two-filled : (u : After-u16_at) → let a = u.args in set (set a.components.now a.x a.self.lead) (a.x + 1) u.u16_at.result ≡ filled a.self.lead a.self.bytes.now a.at a.x a.components.now 1
two-filled u =
    let a = u.args in
    let begun = lead-filled a.self.lead a.self.bytes.now a.at a.x a.components.now (omega (arith, u.args.self.low, u.requires.1)) in
    word-filled a.self.lead a.self.bytes.now a.at a.x a.components.now 0 _ begun (a.x + 1) (a.at + 4) u.u16_at.result (omega arith) (omega arith) u.u16_at.ensures (omega (arith, u.args.self.low, u.requires.1))

pub returns-then-self-eq2 : goal.returns-then-self-eq2
returns-then-self-eq2 c =
    let a = c.args in
    two-filled (goal.at.returns-then-self-eq2 c).After-u16_at ∙ rule-filled a.self.lead a.self.bytes.now a.at a.x a.components.now a.self.n 1 c.if-self-eq2.true

pub returns : goal.returns
returns c =
    let a = c.args in
    word-filled a.self.lead a.self.bytes.now a.at a.x a.components.now 1 _ (two-filled (goal.at.returns c).After-u16_at) (a.x + 2) (a.at + 6) c.u16_at-2.result (omega arith) (omega arith) c.u16_at-2.ensures (omega (arith, c.args.self.low, c.args.self.high, c.requires.1, c.if-self-eq2.false))
    ∙ rule-filled a.self.lead a.self.bytes.now a.at a.x a.components.now a.self.n 2 (omega (arith, c.args.self.low, c.args.self.high, c.if-self-eq2.false))
