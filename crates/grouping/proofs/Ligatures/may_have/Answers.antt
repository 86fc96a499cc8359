-- `grouping::Ligatures::may_have` meets its contract.
-- Assumes nothing.
use native.Mathlib.Omega.{arith}
use mathlib.Core.Path.{◌∙◌}
use Rattle.grouping.proofs.SetsLaws.{has_last, has-next}
use Rattle.grouping.proofs.Ligatures.may_have.Goals as goal

pub returns-then-left-eq0 : goal.returns-then-left-eq0
returns-then-left-eq0 c =
    let a = c.args in
    has_last a.self.n a.o a.self.bytes.now a.at a.left a.c c.if-left-eq0.true

pub returns : goal.returns
returns c =
    has-next c.args.self.n c.args.o c.args.self.bytes.now c.args.at c.args.left c.args.c (omega (arith, c.if-left-eq0.false)) c.from.result (c.from.ensures ∙ c.u16_at.ensures)
