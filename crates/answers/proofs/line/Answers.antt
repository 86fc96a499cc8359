-- `answers::line` meets its contract: what joining answers decides what is printed.
-- Assumes nothing.
use mathlib.Core.Path.{refl, sym, ap, ◌∙◌}
use Rattle.refusals.specs.Numbers.{said}
use Rattle.refusals.proofs.VerdictLaws.{refused_number}
use Rattle.printing.specs.Writing.{filled}
use Rattle.answers.proofs.AnswerLaws.{line-accepted, line_refused}
use Rattle.answers.proofs.line.Goals as goal

pub returns-in-Err : goal.returns-in-Err
returns-in-Err c =
    let a = c.args in
    let e = sym (ap said c.in-Err.is) in
    c.refused.ensures
    ∙ ap (filled a.out.now)
    (line_refused a.codes.now a.widths.now a.types.now a.categories.now a.base.now a.actions.now a.masks.now c.requires c.number.result _ _ (c.number.ensures ∙ e)
    c.join_line-verdict.ensures
    (λ z. refused_number c.in-Err.refusal (sym c.number.ensures ∙ z)))

pub returns-in-Ok : goal.returns-in-Ok
returns-in-Ok c =
    let a = c.args in
    let e = sym (ap said c.in-Ok.is) in
    c.print.ensures
    ∙ ap (filled a.out.now)
    (line-accepted a.codes.now a.widths.now a.types.now a.categories.now a.base.now a.actions.now a.masks.now c.requires 0 _ _ e
    c.join_line-verdict.ensures
    refl)
