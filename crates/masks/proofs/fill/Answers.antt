-- `masks::fill` meets its contract: what is filled up to a record, and the masks of the rest.
-- Assumes nothing.
use mathlib.Core.Path.{sym, ◌∙◌}
use borrow.Author.Rules.{rules}
use Rattle.masks.proofs.MaskLaws.{masks_turn, masks-end}
use Rattle.masks.proofs.fill.Goals as goal

pub loop-i-preserved : goal.loop-i-preserved
loop-i-preserved c =
    let l = c.loop-i in
    let a = c.args in
    l.invariant ∙ masks_turn a.features.now a.base.now a.actions.now l.masks l.i (search rules) (c.requires.1 ∙ sym l.auto.masks) _ c.mask_of.ensures c.loop-i-test.true

pub returns : goal.returns
returns c =
    let l = c.loop-i in
    let a = c.args in
    sym (l.invariant ∙ masks-end a.features.now a.base.now a.actions.now l.masks l.i (search rules) (c.requires.1 ∙ sym l.auto.masks) c.loop-i-test.false)
