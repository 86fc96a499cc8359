-- `lines::join_line` meets its contract: a refusal leaves the line, and what is not refused is joined.
-- Assumes nothing.
use mathlib.Core.Path.{◌≡◌, ap, ◌∙◌}
use mathlib.Core.Bool.{Bool}
use Rattle.laws.specs.Rows.{first}
use Rattle.std.proofs.lemmas.Result.{err_from_is_err_and}
use Rattle.refusals.specs.Numbers.{said}
use Rattle.lines.specs.Held.{Setting, Line, setting_now, line_mut_now}
use Rattle.lines.specs.Joined.{refusal_rows, refusal, joined_line}
use Rattle.refusals.proofs.AnswerLaws.{left-err, left-ok, ok-number}
use Rattle.lines.proofs.join_line.Goals as goal
use Rattle.lines.proofs.join_line.Goals.{After-refused, Start}

-- what the call was given
abbrev setting : Start → Setting
setting s = let a = s.args in setting_now a.pre_types a.pre_categories a.post_types a.post_categories a.manner

abbrev line : Start → Line
line s = let a = s.args in line_mut_now a.codes a.types a.categories a.base a.actions a.masks

-- the number that the tests give
found : (c : After-refused) → said c.refused.result ≡ refusal (setting (search)) (line (search))
unfolding refusal
found c =
    c.refused.ensures ∙ ap (λ (b : Bool). first (refusal_rows b (line (search)).letters (setting (search)).pre (setting (search)).post)) c.even_line-line_even.ensures

pub returns-in_err-refused : goal.returns-in_err-refused
returns-in_err-refused c =
    let p = err_from_is_err_and c.from_residual.result c.from_residual.ensures.1 in
    let w = found (goal.at.returns-in_err-refused c).After-refused in
    rw (p.1, p.2) (left-err _ (line (search)) (joined_line (setting (search)) (line (search))) c.refused.result w _ c.in_err-refused.was)

pub join_accepted-requires : goal.join_accepted-requires
join_accepted-requires c =
    ok-number _ (line (search)) (line (search)) _ (found (goal.at.join_accepted-requires c).After-refused) _ c.in_ok-refused.was

pub returns : goal.returns
returns c =
    left-ok _ (line (search)) (joined_line (setting (search)) (line (search))) _ (found (goal.at.returns c).After-refused) _ c.in_ok-refused.was _ c.join_accepted.ensures
