-- `marks::reorder_modifier_combining_marks` meets its contract: a refusal leaves the columns, and of what is not refused the part is reordered.
-- Assumes nothing.
use mathlib.Core.Path.{◌≡◌, refl, sym, ap, ap₂, ◌∙◌}
use mathlib.Core.List.{[]}
use Rattle.std.proofs.lemmas.Result.{err_from_is_err_and}
use Rattle.refusals.proofs.VerdictLaws.{refused_number}
use Rattle.refusals.proofs.LeftLaws.{left_refused, left-done}
use Rattle.marks.specs.Passes.{reorder_classes, ranges}
use Rattle.marks.specs.Reordered.{ReorderRequest, Columns, ReorderOutcome, reorder_request, columns_of, reorder_outcome, ranges_of, reordered, reorder_refusal}
use Rattle.marks.proofs.ReorderedLaws.{Allowed, allowed, part-lent, new-columns}
use Rattle.marks.proofs.reorder_modifier_combining_marks.Goals as goal
use Rattle.marks.proofs.reorder_modifier_combining_marks.Goals.{In_ok-refused}

-- what the call leaves if it is refused, and if it is not
abbrev old : Columns → ReorderOutcome
old l = reorder_outcome [] l

abbrev new : ReorderRequest → Columns → ReorderOutcome
new q l = reorder_outcome (ranges_of q l) (reordered q l)

-- where the tests accept, their number is 0
accepted : (c : In_ok-refused) → 0 ≡ reorder_refusal (reorder_request c.args.start c.args.end c.args.low c.args.high) (columns_of c.args.codes.now c.args.classes.now)
unfolding reorder_refusal
accepted c = c.in_ok-refused.ensures

given : (c : In_ok-refused) → Allowed (reorder_request c.args.start c.args.end c.args.low c.args.high) (columns_of c.args.codes.now c.args.classes.now)
given c = allowed (reorder_request c.args.start c.args.end c.args.low c.args.high) (columns_of c.args.codes.now c.args.classes.now) (sym (accepted c))

pub returns-in_err-refused : goal.returns-in_err-refused
unfolding reorder_refusal
returns-in_err-refused c =
    let q = reorder_request c.args.start c.args.end c.args.low c.args.high in
    let l = columns_of c.args.codes.now c.args.classes.now in
    let p = err_from_is_err_and c.from_residual.result c.from_residual.ensures.1 in
    rw (p.1, p.2) (left_refused (reorder_refusal q l) (old l) (new q l) _ c.in_err-refused.ensures (refused_number c.in_err-refused.field-0.0))

pub returns : goal.returns
returns c =
    let q = reorder_request c.args.start c.args.end c.args.low c.args.high in
    let l = columns_of c.args.codes.now c.args.classes.now in
    let done = c.reorder in
    let a = given (goal.at.returns c).In_ok-refused in
    left-done _ (old l) (new q l) _ _ (accepted (goal.at.returns c).In_ok-refused) refl
    (ap₂ reorder_outcome
    (done.ensures.merged ∙ ap (ranges c.args.start reorder_classes) (part-lent q l))
    (new-columns q l a done.new.codes done.new.classes done.auto.codes done.auto.classes done.ensures.moved))
