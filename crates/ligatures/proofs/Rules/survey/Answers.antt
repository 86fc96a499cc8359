-- `ligatures::Rules::survey` meets its contract: what was found, with the sets to come, is the whole extent.
-- Assumes nothing.
use native.Mathlib.Omega.{arith}
use Rattle.ligatures.proofs.SurveyLaws.{survey_begins, survey_next, survey_ends}
use Rattle.ligatures.proofs.Rules.survey.Goals as goal

pub loop-i-init : goal.loop-i-init
loop-i-init c = survey_begins _ _ _

pub loop-i-smaller : goal.loop-i-smaller
loop-i-smaller c = let e = c.set_end-e.ensures in omega (arith, e.after, e.within)

pub loop-i-preserved : goal.loop-i-preserved
loop-i-preserved c = survey_next c.loop-i.invariant c.set_end-e.ensures _ c.max-longest.ensures _ (omega arith)

pub returns : goal.returns
returns c =
    let r = survey_ends c.loop-i.invariant c.loop-i-test.false in
    record { sets = r.0; longest = r.1; last = r.2 }
