-- `packing::unpack` meets its contract: the rules that are unpacked and those still to be unpacked are all. The measure is what is left of them.
-- Assumes nothing.
use Rattle.packing.proofs.UnpackLaws.{unpacking_starts, unpacking_room, unpacking_next, unpacking_ends}
use Rattle.packing.proofs.unpack.Goals as goal

pub loop-i-init : goal.loop-i-init
loop-i-init c =
    unpacking_starts _ _ _ _ c.requires.0 c.requires.1

pub put_digits-ligature-requires : goal.put_digits-ligature-requires
put_digits-ligature-requires c =
    unpacking_room c.loop-i.invariant c.loop-i-test.true

pub loop-i-preserved : goal.loop-i-preserved
loop-i-preserved c =
    unpacking_next c.loop-i.invariant c.loop-i-test.true _ _ c.put_digits-ligature.ensures

pub returns : goal.returns
returns c =
    let ends = unpacking_ends c.loop-i.invariant c.loop-i-test.false in
    record { components = ends.0; ligatures = ends.1 }
