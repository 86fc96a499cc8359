-- `grouping::starts` meets its contract.
-- Assumes nothing.
use native.Mathlib.Omega.{arith}
use Rattle.accepting.proofs.TookLaws.{handed}
use Rattle.grouping.proofs.StartLaws.{starts_none, starts-stops, starts_taken}
use Rattle.grouping.proofs.starts.Goals as goal

pub returns-then-s-eq0 : goal.returns-then-s-eq0
returns-then-s-eq0 c = starts_none c.args.n c.args.bytes.now c.args.at c.args.s c.if-s-eq0.true c.requires.0

pub returns-in_err-p : goal.returns-in_err-p
returns-in_err-p c =
    let a = c.args in
    rw (handed c.from_residual.ensures) (starts-stops a.n a.bytes.now a.at a.s (omega (arith, c.if-s-eq0.false)) _ c.in_err-p.ensures)

pub returns : goal.returns
returns c =
    let a = c.args in
    starts_taken a.n a.bytes.now a.at a.s (omega (arith, c.if-s-eq0.false)) c.in_ok-p.p c.in_ok-p.ensures _ c.later.ensures
