-- `replacing::replace_letter` meets its contract: a refusal leaves the line, and what is not refused is replaced.
-- Assumes nothing.
use mathlib.Core.Path.{◌≡◌}
use Rattle.refusals.specs.Numbers.{said}
use Rattle.refusals.proofs.AnswerLaws.{left-err, left-ok, ok-number}
use Rattle.std.proofs.lemmas.Result.{err_from_is_err_and}
use Rattle.lines.specs.Held.{Setting, Line, setting_now, line_all_mut_now}
use Rattle.lines.specs.Joined.{frame_of}
use Rattle.replacing.specs.Replaced.{Request, asked, replaced_line, replace_refusal}
use Rattle.replacing.proofs.replace_letter.Goals as goal
use Rattle.replacing.proofs.replace_letter.Goals.{After-refused, Start}

-- what the call was given, and the line that it leaves if it is accepted
abbrev setting : Start → Setting
setting s = let a = s.args in setting_now a.pre_types a.pre_categories a.post_types a.post_categories a.manner

abbrev line : Start → Line
line s = let a = s.args in line_all_mut_now a.codes a.types a.categories a.base a.actions a.masks

abbrev request : Start → Request
request s = asked s.args.request

abbrev new : Start → Line
new s = replaced_line (frame_of (setting s)) (request s) (line s)

-- the number that the tests give
found : (c : After-refused) → said c.refused.result ≡ replace_refusal (setting (search)) (request (search)) (line (search))
unfolding replace_refusal
found c = c.refused.ensures

pub returns-in_err-refused : goal.returns-in_err-refused
returns-in_err-refused c =
    let p = err_from_is_err_and c.from_residual.result c.from_residual.ensures.1 in
    let w = found (goal.at.returns-in_err-refused c).After-refused in
    rw (p.1, p.2) (left-err _ (line (search)) (new (search)) c.refused.result w _ c.in_err-refused.was)

pub replace_accepted-requires : goal.replace_accepted-requires
replace_accepted-requires c =
    ok-number _ (line (search)) (line (search)) _ (found (goal.at.replace_accepted-requires c).After-refused) _ c.in_ok-refused.was

pub returns : goal.returns
returns c =
    left-ok _ (line (search)) (new (search)) _ (found (goal.at.returns c).After-refused) _ c.in_ok-refused.was _ c.replace_accepted.ensures
