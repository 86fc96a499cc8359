-- `coded::join_codes` meets its contract: a line whose lengths are refused is left; any other is handed on with room for its types.
-- Assumes nothing.
use mathlib.Core.Path.{◌≡◌, sym, ap, ◌∙◌}
use borrow.Author.Rules.{rules}
use Rattle.refusals.specs.Numbers.{said}
use Rattle.refusals.proofs.VerdictLaws.{refused_number}
use Rattle.refusals.proofs.AnswerLaws.{left-err}
use Rattle.std.proofs.lemmas.Result.{err_from_is_err_and}
use Rattle.lines.specs.Joined.{joined_line}
use Rattle.coded.specs.Coded.{CodedSetting, CodedLine, coded_setting_now, coded_line_mut_now, typed_setting, typed_line}
use Rattle.coded.proofs.CodedLaws.{InLength, length_number, joining_refused, in_length}
use Rattle.coded.proofs.join_codes.Goals as goal
use Rattle.coded.proofs.join_codes.Goals.{After-measured-verdict, In_ok-verdict, Start}

-- what the call was given
abbrev setting : Start → CodedSetting
setting s = let a = s.args in coded_setting_now a.pre_codes a.pre_categories a.post_codes a.post_categories a.manner

abbrev line : Start → CodedLine
line s = let a = s.args in coded_line_mut_now a.codes a.categories a.base a.actions a.masks

-- the number that the tests give
found : (c : After-measured-verdict) → said c.measured-verdict.result ≡ length_number (setting (search)) (line (search))
found c = c.measured-verdict.ensures

-- where it is 0, all types have room
fits : (c : In_ok-verdict) → InLength (setting (search)) (line (search))
fits c = in_length (setting (search)) (line (search)) (sym c.measured-verdict.ensures ∙ ap said c.in_ok-verdict.was)

pub returns-in_err-verdict : goal.returns-in_err-verdict
returns-in_err-verdict c =
    let p = err_from_is_err_and c.from_residual.result c.from_residual.ensures.1 in
    let w = found (goal.at.returns-in_err-verdict c).After-measured-verdict in
    let given : said c.measured-verdict.result ≡ 0 → ⊥ = λ z. refused_number _ (sym (ap said c.in_err-verdict.was) ∙ z) in
    rw (p.1, p.2)
    (left-err _ (typed_line (line (search))) (joined_line (typed_setting (setting (search))) (typed_line (line (search)))) c.measured-verdict.result
    (w ∙ joining_refused (setting (search)) (line (search)) (λ z. given (w ∙ z))) _ c.in_err-verdict.was)

pub join_in-requires : goal.join_in-requires
join_in-requires c =
    (search rules, c.if-codes-le-SHORT.true, (fits (goal.at.join_in-requires c).In_ok-verdict).pre, (fits (goal.at.join_in-requires c).In_ok-verdict).post)

pub join_in-requires-2 : goal.join_in-requires-2
join_in-requires-2 c =
    (search rules, (fits (goal.at.join_in-requires-2 c).In_ok-verdict).line, (fits (goal.at.join_in-requires-2 c).In_ok-verdict).pre, (fits (goal.at.join_in-requires-2 c).In_ok-verdict).post)
