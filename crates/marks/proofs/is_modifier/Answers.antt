-- `marks::is_modifier` meets its contract: the flag carries what was found, and the rest of the list is still to search.
-- Assumes nothing.
use mathlib.Core.Path.{refl, ap}
use Prim.Native.Nat.{◌+◌}
use lib.Dec.{eqb}
use lib.ListN.{get_or, drop, drop_of_length-le}
use Rattle.laws.specs.Lists.{member}
use Rattle.laws.proofs.LoopLaws.{drop-next, seen_next, seen-ends}
use Rattle.marks.specs.Modifiers.{modifiers, modifier}
use Rattle.marks.proofs.is_modifier.Goals as goal

pub loop-mark-init : goal.loop-mark-init
unfolding modifier
loop-mark-init c = refl

pub loop-mark-preserved : goal.loop-mark-preserved
loop-mark-preserved c =
    let x = c.args.code.0 in
    let i = c.loop-mark.mark-index in
    seen_next c.loop-mark.found c.loop-mark.invariant (eqb (get_or modifiers i 0) x) (member x (drop (i + 1) modifiers)) (ap (member x) (drop-next modifiers i 0 c.loop-mark-test.true))

pub returns : goal.returns
returns c =
    seen-ends c.loop-mark.found c.loop-mark.invariant (ap (member c.args.code.0) (drop_of_length-le modifiers {i = c.loop-mark.mark-index} c.loop-mark-test.false))
