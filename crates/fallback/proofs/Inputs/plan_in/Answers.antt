-- `fallback::Inputs::plan_in` meets its contract: "If no lookup results, the Windows-1256 signature is tested".
-- Assumes nothing.
use mathlib.Core.Path.{sym, ◌∙◌}
use Rattle.windows.specs.Windows.{direct}
use Rattle.fallback.specs.Plan.{unicode}
use Rattle.fallback.specs.Lent.{inputs_in}
use Rattle.fallback.proofs.SettleLaws.{plan-unicode, plan-direct}
use Rattle.fallback.proofs.Inputs.plan_in.Goals as goal

pub returns-then-draft-ne0 : goal.returns-then-draft-ne0
returns-then-draft-ne0 c =
    let i = inputs_in c.args.self in
    rw (← plan-unicode i (λ z. c.if-draft-ne0.true (c.new_unicode-draft.ensures.drafted.counted ∙ z))) (c.settle.ensures (unicode i) c.new_unicode-draft.ensures.drafted)

pub returns : goal.returns
returns c =
    let i = inputs_in c.args.self in
    rw (← plan-direct i (sym c.new_unicode-draft.ensures.drafted.counted ∙ c.if-draft-ne0.false)) (c.settle-2.ensures (direct i.masks i.font) c.new_win1256-direct.ensures)
