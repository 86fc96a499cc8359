-- `ligatures::Rules::put_others` meets its contract.
-- Assumes nothing.
use mathlib.Core.Path.{◌≡◌}
use Prim.Native.Nat.{◌+◌}
use native.Mathlib.Omega.{arith}
use Rattle.ligatures.proofs.PlaceLaws.{other-written, others-written}
use Rattle.ligatures.proofs.Rules.put_others.Goals as goal

pub returns : goal.returns
returns c =
    let three : c.args.self.n ≡ 3 = omega (arith, c.args.self.shape.low, c.args.self.shape.high, c.if-self-eq2.false) in
    let w = c.put_u16.ensures in
    let behind = other-written c.args.self.components.now (c.args.i + 2) (c.args.i + 3) 0 (omega (arith, c.requires.0, three)) (omega arith) w (others-written w) in
    rw three (other-written c.args.self.components.now (c.args.i + 1) (c.args.i + 2) 1 (omega (arith, c.requires.0, three)) (omega arith) c.put_u16-a.ensures behind)
