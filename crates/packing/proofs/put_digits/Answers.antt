-- `packing::put_digits` meets its contract: what is put and what is still to be put are the digits of the number.
-- Assumes nothing.
use Prim.Native.Nat.{◌+◌, ◌-◌}
use mathlib.Core.Path.{◌≡◌}
use native.Mathlib.Omega.{arith}
use Rattle.packing.proofs.UnpackLaws.{putting_next, putting_ends}
use Rattle.packing.proofs.put_digits.Goals as goal

pub loop-k-preserved : goal.loop-k-preserved
loop-k-preserved c =
    let e = c.args.at + c.args.n in
    let k = c.loop-k.k in
    let less : e - (k + 1) ≡ e - k - 1 = omega arith in
    rw less (putting_next c.loop-k.invariant (omega (arith, c.loop-k-test.true)))

pub returns : goal.returns
returns c = putting_ends c.loop-k.invariant (omega (arith, c.loop-k-test.false))
