-- `coded::replace_typed` meets its contract: replacing itself, of the types that were looked up, and the line that it leaves has the types of its codes.
-- Assumes nothing.
use Rattle.coded.specs.Coded.{CodedSetting, CodedLine, CodedRequest, asked_for, coded_setting_now, coded_line_all_mut_now}
use Rattle.coded.proofs.CodedLaws.{replacing-by}
use Rattle.coded.proofs.replace_typed.Goals as goal
use Rattle.coded.proofs.replace_typed.Goals.{Start}

-- what the call was given
abbrev setting : Start → CodedSetting
setting s = let a = s.args in coded_setting_now a.pre_codes a.pre_categories a.post_codes a.post_categories a.manner

abbrev line : Start → CodedLine
line s = let a = s.args in coded_line_all_mut_now a.codes a.categories a.base a.actions a.masks

abbrev request : Start → CodedRequest
request s = asked_for s.args.request

pub returns : goal.returns
returns c =
    replacing-by (setting (search)) (request (search)) (line (search)) c.replace_letter.result
    c.typed-held.ensures c.typed-pre.ensures c.typed-post.ensures c.joining_type-joining_type.ensures c.replace_letter.ensures
