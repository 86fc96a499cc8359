-- `recognizing::begun` meets its contract.
-- Assumes nothing.
use Rattle.accepting.proofs.TookLaws.{handed}
use Rattle.recognizing.proofs.WholeLaws.{begun-head, begun_format, begun_taken}
use Rattle.recognizing.proofs.begun.Goals as goal

pub returns-in_err-p : goal.returns-in_err-p
returns-in_err-p c =
    let a = c.args in
    rw (handed c.from_residual.ensures) (begun-head a.kind a.format a.most a.bytes.now _ c.in_err-p.ensures, tt)

pub exactly-requires : goal.exactly-requires
exactly-requires c = c.in_ok-p.ensures.place.1

pub returns-in_err-q : goal.returns-in_err-q
returns-in_err-q c =
    let a = c.args in
    rw (handed c.from_residual-in_err-q.ensures) (begun_format a.kind a.format a.most a.bytes.now c.in_ok-p.p c.in_ok-p.ensures _ c.in_err-q.ensures, tt)

pub counted-requires : goal.counted-requires
counted-requires c = (c.in_ok-q.ensures.place.1, c.requires)

pub returns : goal.returns
returns c =
    let a = c.args in
    begun_taken a.kind a.format a.most a.bytes.now c.in_ok-p.p c.in_ok-p.ensures c.in_ok-q.q c.in_ok-q.ensures _ c.counted.ensures
