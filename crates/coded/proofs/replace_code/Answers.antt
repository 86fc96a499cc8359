-- `coded::replace_code` meets its contract: a line whose lengths are refused is left; any other is handed on with room for its types.
-- Assumes nothing.
use mathlib.Core.Path.{◌≡◌, sym, ap, ◌∙◌}
use borrow.Author.Rules.{rules}
use Rattle.refusals.specs.Numbers.{said}
use Rattle.refusals.proofs.VerdictLaws.{refused_number}
use Rattle.refusals.proofs.AnswerLaws.{left-err}
use Rattle.std.proofs.lemmas.Result.{err_from_is_err_and}
use Rattle.lines.specs.Joined.{frame_of}
use Rattle.replacing.specs.Replaced.{replaced_line}
use Rattle.coded.specs.Coded.{CodedSetting, CodedLine, CodedRequest, asked_for, coded_setting_now, coded_line_all_mut_now, typed_setting, typed_line, typed_request}
use Rattle.coded.proofs.CodedLaws.{InLength, length_number, replacing_refused, in_length}
use Rattle.coded.proofs.replace_code.Goals as goal
use Rattle.coded.proofs.replace_code.Goals.{After-measured-lengths, In_ok-lengths, Start}

-- what the call was given
abbrev setting : Start → CodedSetting
setting s = let a = s.args in coded_setting_now a.pre_codes a.pre_categories a.post_codes a.post_categories a.manner

abbrev line : Start → CodedLine
line s = let a = s.args in coded_line_all_mut_now a.codes a.categories a.base a.actions a.masks

abbrev request : Start → CodedRequest
request s = asked_for s.args.request

-- the number that the tests give
found : (c : After-measured-lengths) → said c.measured-lengths.result ≡ length_number (setting (search)) (line (search))
found c = c.measured-lengths.ensures

-- where it is 0, all types have room
fits : (c : In_ok-lengths) → InLength (setting (search)) (line (search))
fits c = in_length (setting (search)) (line (search)) (sym c.measured-lengths.ensures ∙ ap said c.in_ok-lengths.was)

pub returns-in_err-lengths : goal.returns-in_err-lengths
returns-in_err-lengths c =
    let p = err_from_is_err_and c.from_residual.result c.from_residual.ensures.1 in
    let w = found (goal.at.returns-in_err-lengths c).After-measured-lengths in
    let given : said c.measured-lengths.result ≡ 0 → ⊥ = λ z. refused_number _ (sym (ap said c.in_err-lengths.was) ∙ z) in
    rw (p.1, p.2)
    (left-err _ (typed_line (line (search))) (replaced_line (frame_of (typed_setting (setting (search)))) (typed_request (request (search))) (typed_line (line (search)))) c.measured-lengths.result
    (w ∙ replacing_refused (setting (search)) (line (search)) (λ z. given (w ∙ z)) (typed_request (request (search)))) _ c.in_err-lengths.was)

pub replace_in-requires : goal.replace_in-requires
replace_in-requires c =
    (search rules, c.if-codes-le-SHORT.true, (fits (goal.at.replace_in-requires c).In_ok-lengths).pre, (fits (goal.at.replace_in-requires c).In_ok-lengths).post)

pub replace_in-requires-2 : goal.replace_in-requires-2
replace_in-requires-2 c =
    (search rules, (fits (goal.at.replace_in-requires-2 c).In_ok-lengths).line, (fits (goal.at.replace_in-requires-2 c).In_ok-lengths).pre, (fits (goal.at.replace_in-requires-2 c).In_ok-lengths).post)
