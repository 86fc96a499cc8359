-- `fitting::clamp` meets its contract: the two tests and the cast are the cases of the nearest number.
-- Assumes nothing.
use mathlib.Core.Path.{sym}
use native.Mathlib.Omega.{arith}
use mir.Syntax.{w32}
use mir.Val.{SFits}
use Rattle.fitting.proofs.SignedLaws.{back, back-wide, clamp_hi, clamp_lo, clamp_in, clamp_id}
use Rattle.fitting.proofs.clamp.Goals as goal
use Rattle.fitting.proofs.clamp.Goals.{Else-s-ltminus2147483648}

-- past neither limit, the sum fits
inside : (c : Else-s-ltminus2147483648) → SFits w32 c.args.s
inside c =
    let f = c.ranges.s in
    clamp_in _ _ _ (omega arith) (omega arith) (rw (back-wide f) at c.if-s-gt2147483647.false) (rw (back-wide f) at c.if-s-ltminus2147483648.false)

pub returns-then-s-gt2147483647 : goal.returns-then-s-gt2147483647
returns-then-s-gt2147483647 c = clamp_hi _ _ (omega arith) (rw (back-wide c.ranges.s) at c.if-s-gt2147483647.true)

pub returns-then-s-ltminus2147483648 : goal.returns-then-s-ltminus2147483648
returns-then-s-ltminus2147483648 c = clamp_lo _ _ (omega arith) (rw (back-wide c.ranges.s) at c.if-s-ltminus2147483648.true)

pub overflow_cast-result : goal.overflow_cast-result
overflow_cast-result c = rw (back-wide c.ranges.s) (inside (goal.at.overflow_cast-result c).Else-s-ltminus2147483648)

pub returns : goal.returns
returns c = rw (back-wide c.ranges.s, back (inside (goal.at.returns c).Else-s-ltminus2147483648)) (sym (clamp_id (inside (goal.at.returns c).Else-s-ltminus2147483648)))
