-- `tt_reorder_modifier_combining_marks` meets its contract.
-- Assumes nothing.
use Rattle.thawtrundle.proofs.ToldLaws.{reordered_as, unmoved_as}
use Rattle.thawtrundle.proofs.tt_reorder_modifier_combining_marks.Goals as goal

pub returns-in-Nothing : goal.returns-in-Nothing
returns-in-Nothing c =
    reordered_as _ _ c.reorder_modifier_combining_marks.ensures c.in-Ok.merged c.in-Ok.is (rw c.in-Nothing.is) (rw c.in-Nothing.is)

pub returns-in-One : goal.returns-in-One
returns-in-One c =
    reordered_as _ _ c.reorder_modifier_combining_marks.ensures c.in-Ok.merged c.in-Ok.is (rw c.in-One.is) (rw c.in-One.is)

pub returns-in-Two : goal.returns-in-Two
returns-in-Two c =
    reordered_as _ _ c.reorder_modifier_combining_marks.ensures c.in-Ok.merged c.in-Ok.is (rw c.in-Two.is) (rw c.in-Two.is)

pub returns-in-Err : goal.returns-in-Err
returns-in-Err c =
    unmoved_as _ _ c.reorder_modifier_combining_marks.ensures c.in-Err.refusal c.in-Err.is c.number.ensures
