-- `drafts::serialize` meets its contract: either writer's statement is that of its kind.
-- Assumes nothing.
use native.Mathlib.Omega.{arith}
use Rattle.layouts.proofs.FitLaws.{fits-lent}
use Rattle.drafts.proofs.serialize.Goals as goal

pub returns-in-Single-clause-small : goal.returns-in-Single-clause-small
returns-in-Single-clause-small c =
    (fits-lent c.args.glyphs.now (λ i. omega (arith, c.type_inv.glyphs i)), fits-lent c.args.substitutes.now (λ i. omega (arith, c.type_inv.substitutes i)))

pub returns-in-Ligature-clause-small : goal.returns-in-Ligature-clause-small
returns-in-Ligature-clause-small c =
    (fits-lent c.args.glyphs.now (λ i. omega (arith, c.type_inv.glyphs i)), fits-lent c.args.substitutes.now (λ i. omega (arith, c.type_inv.substitutes i)))
