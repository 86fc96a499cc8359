-- `stretching::new_length` meets its contract: of a line that is stretched, and of one that is not.
-- Assumes nothing.
use mathlib.Core.Path.{sym, ap, ◌∙◌}
use lib.ListN.{length}
use Rattle.runs.proofs.RecordLaws.{length-line}
use Rattle.stretching.proofs.CallLaws.{length-recorded}
use Rattle.stretching.proofs.new_length.Goals as goal

pub returns-then-recorded : goal.returns-then-recorded
returns-then-recorded c =
    λ l lent.
    rw c.if-recorded.true (c.stretched_length.ensures l lent ∙ sym (length-recorded c.args.rtl l))

pub returns-else-recorded : goal.returns-else-recorded
returns-else-recorded c = λ l lent. rw c.if-recorded.false (ap length (sym lent.has_actions) ∙ sym (length-line l))
