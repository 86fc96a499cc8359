-- `masks::mask_of` meets its contract: an entry, or past the entries the base mask alone.
-- Assumes nothing.
use mathlib.Core.Path.{sym, ap}
use native.Mathlib.Omega.{arith}
use Rattle.masks.specs.Masks.{mask}
use Rattle.masks.proofs.MaskLaws.{mask-past}
use Rattle.masks.proofs.mask_of.Goals as goal

pub returns-then-entry-lt7 : goal.returns-then-entry-lt7
unfolding mask
returns-then-entry-lt7 c =
    let a = c.args in
    ap (mask a.features.now a.base) c.from.ensures

pub returns : goal.returns
returns c =
    let a = c.args in
    sym (mask-past a.features.now a.base a.action.0 (omega (arith, c.told-features, c.if-entry-lt7.false)))
