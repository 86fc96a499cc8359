-- `fallback::FallbackPlan::new` meets its contract: refused by its columns, or settled.
-- Assumes nothing.
use mathlib.Core.Path.{sym, subst}
use Rattle.std.proofs.lemmas.Result.{err_from_is_err_and}
use Rattle.fallback.specs.Plan.{Inputs, inputs_of, plan}
use Rattle.fallback.specs.Planned.{Settled}
use Rattle.fallback.proofs.SettleLaws.{refused_planning, settled-planning}
use Rattle.fallback.proofs.FallbackPlan.new.Goals as goal
use Rattle.fallback.proofs.FallbackPlan.new.Goals.{Start}

abbrev inputs : Start → Inputs
inputs b =
    let a = b.args in
    inputs_of a.masks a.codes.now a.glyphs.now a.shaping.now a.forms.now a.three_components.now a.three_ligatures.now a.two_components.now a.two_ligatures.now a.mark_components.now a.mark_ligatures.now

pub returns-in_err-inputs : goal.returns-in_err-inputs
returns-in_err-inputs c =
    let p = err_from_is_err_and c.from_residual.result c.from_residual.ensures.1 in
    rw (p.1, p.2) (refused_planning (inputs (search)) c.args.area.now _ c.in_err-inputs.ensures.number)

pub returns : goal.returns
returns c =
    let lent = c.in_ok-inputs.ensures in
    let P : Inputs → Type 0 = λ i. Settled (plan i) c.args.area.now c.plan_in.result c.plan_in.new.area in
    settled-planning (inputs (search)) c.args.area.now (sym lent.number) c.plan_in.result c.plan_in.new.area (subst P {y = inputs (search)} lent.lent c.plan_in.ensures)
