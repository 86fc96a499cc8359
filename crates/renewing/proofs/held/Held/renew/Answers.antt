-- `renewing::renew` meets its contract: one action for all that the record reaches; where there is no such record, the line stays.
-- Assumes nothing.
use mathlib.Core.Path.{sym, ◌∙◌}
use native.Mathlib.Omega.{arith}
use Rattle.renewing.proofs.FreshLaws.{reach-within}
use Rattle.renewing.proofs.HeldLaws.{line-renewed, line_stays}
use Rattle.renewing.proofs.held.Held.renew.Goals as goal

pub fresh_action-action-requires : goal.fresh_action-action-requires
fresh_action-action-requires c =
    let h = c.if-k-self.true in
    record { codes_len = (c.requires.renewable.codes, h); beside = c.requires.beside h }

pub put-requires : goal.put-requires
put-requires c =
    let held = c.requires.renewable in
    let reach = reach-within c.args.self.now.frame.mongolian c.args.self.now.codes.now c.args.k _ c.reach_end-end.ensures (omega (arith, held.codes, c.if-k-self.true)) in
    record {
      in_bounds = (reach.0, omega (arith, reach.1, held.codes, held.base));
      actions_len = (held.actions ∙ sym held.base, held.masks ∙ sym held.base);
    }

pub returns-then-k-self : goal.returns-then-k-self
returns-then-k-self c =
    line-renewed c.requires.renewable c.args.k _ _ _ _ c.fresh_action-action.ensures c.reach_end-end.ensures c.put.ensures.actions c.put.ensures.masks

pub returns-else-k-self : goal.returns-else-k-self
returns-else-k-self c =
    line_stays c.requires.renewable c.args.k c.if-k-self.false
