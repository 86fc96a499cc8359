-- `accepting::headed` meets its contract.
-- Assumes nothing.
use Rattle.accepting.proofs.TookLaws.{handed}
use Rattle.accepting.proofs.SeriesLaws.{headed-stops, headed-flags, headed_taken}
use Rattle.accepting.proofs.headed.Goals as goal

pub returns-in_err-p : goal.returns-in_err-p
returns-in_err-p c =
    let a = c.args in
    rw (handed c.from_residual.ensures) (headed-stops a.kind a.bytes.now _ c.in_err-p.ensures)

pub several-requires : goal.several-requires
several-requires c = c.in_ok-p.ensures.place.1

pub returns-in_err-q : goal.returns-in_err-q
returns-in_err-q c =
    let a = c.args in
    rw (handed c.from_residual-in_err-q.ensures) (headed-flags a.kind a.bytes.now c.in_ok-p.p c.in_ok-p.ensures _ c.in_err-q.ensures)

pub exactly-requires-2 : goal.exactly-requires-2
exactly-requires-2 c = c.in_ok-q.ensures.place.1

pub returns : goal.returns
returns c =
    let a = c.args in
    headed_taken a.kind a.bytes.now c.in_ok-p.p c.in_ok-p.ensures c.in_ok-q.q c.in_ok-q.ensures _ c.exactly-2.ensures
