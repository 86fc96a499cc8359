-- `listed::types_of` meets its contract: what is filled, and what is still to come.
-- Assumes nothing.
use mathlib.Core.Path.{◌∙◌, refl, sym}
use native.Mathlib.Omega.{arith}
use lib.ListN.{length-set}
use Rattle.listed.proofs.FillLaws.{filled_more, filled-end}
use Rattle.listed.proofs.types_of.Goals as goal

pub loop-i-init : goal.loop-i-init
loop-i-init c =
    record { even = sym c.requires; inside = omega arith; rest = refl }

pub bounds-types-i : goal.bounds-types-i
bounds-types-i c =
    omega (arith, c.loop-i.invariant.even)

pub loop-i-preserved : goal.loop-i-preserved
loop-i-preserved c =
    record {
      even = simp length-set c.loop-i.invariant.even;
      inside = omega arith;
      rest = filled_more c.loop-i.invariant (omega arith) _ c.type_of.ensures;
    }

pub shape_of-types : goal.shape_of-types
shape_of-types c =
    c.loop-i.invariant.even ∙ c.requires

pub returns : goal.returns
returns c =
    filled-end c.loop-i.invariant c.loop-i-test.false
