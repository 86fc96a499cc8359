-- `accepting::covered` meets its contract.
-- Assumes nothing.
use Rattle.accepting.proofs.TookLaws.{handed}
use Rattle.accepting.proofs.SeriesLaws.{covered-stops, covered_taken}
use Rattle.accepting.proofs.covered.Goals as goal

pub returns-in_err-p : goal.returns-in_err-p
returns-in_err-p c =
    let a = c.args in
    rw (handed c.from_residual.ensures) (covered-stops a.apart a.n a.bytes.now a.at _ c.in_err-p.ensures)

pub rise-requires : goal.rise-requires
rise-requires c = (c.in_ok-p.ensures.place.1, c.requires.1, c.requires.2)

pub returns : goal.returns
returns c =
    let a = c.args in
    covered_taken a.apart a.n a.bytes.now a.at c.in_ok-p.p c.in_ok-p.ensures _ c.rise.ensures
