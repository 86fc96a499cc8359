-- `grouping::Ligatures::set` meets its contract.
-- Assumes nothing.
use Rattle.accepting.proofs.TookLaws.{handed}
use Rattle.grouping.proofs.RuleLaws.{set-stops, set_taken}
use Rattle.grouping.proofs.Ligatures.set.Goals as goal

pub returns-in_err-p : goal.returns-in_err-p
returns-in_err-p c = λ lead.
    let a = c.args in
    rw (handed c.from_residual.ensures) (set-stops a.self.n a.c a.self.bytes.now a.at lead _ c.in_err-p.ensures)

pub rules-requires : goal.rules-requires
rules-requires c =
    (c.in_ok-p.ensures.place.1, c.requires.1)

pub returns : goal.returns
returns c = λ lead.
    let a = c.args in
    set_taken a.self.n a.c a.self.bytes.now a.at lead c.in_ok-p.p c.in_ok-p.ensures _ (c.rules.ensures lead)
