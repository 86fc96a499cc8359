-- `grouping::Ligatures::rule` meets its contract.
-- Assumes nothing.
use Rattle.accepting.proofs.TookLaws.{handed}
use Rattle.grouping.proofs.RuleLaws.{rule-stops, rule-number, rule_taken}
use Rattle.grouping.proofs.Ligatures.rule.Goals as goal

pub returns-in_err-p : goal.returns-in_err-p
returns-in_err-p c = λ lead.
    let a = c.args in
    rw (handed c.from_residual.ensures) (rule-stops a.self.n a.self.bytes.now a.at lead _ c.in_err-p.ensures)

pub returns-in_err-q : goal.returns-in_err-q
returns-in_err-q c =
    λ lead.
    let a = c.args in
    rw (handed c.from_residual-in_err-q.ensures) (rule-number a.self.n a.self.bytes.now a.at lead c.in_ok-p.p c.in_ok-p.ensures _ c.in_err-q.ensures)

pub returns : goal.returns
returns c = λ lead.
    let a = c.args in
    rule_taken a.self.n a.self.bytes.now a.at lead c.in_ok-p.p c.in_ok-p.ensures c.in_ok-q.q c.in_ok-q.ensures c.requires.1 _ c.several-2.ensures
