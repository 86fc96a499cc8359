-- `columns::byte` meets its contract.
-- Assumes nothing.
use mathlib.Core.Path.{sym}
use Prim.Native.Nat.{◌+◌, ◌≤◌}
use native.Mathlib.Omega.{arith}
use lib.ListN.{length, get_or-eq_default}
use Rattle.columns.proofs.byte.Goals as goal

pub returns : goal.returns
returns c =
    let a = c.args in
    let h : length a.bytes.now ≤ a.at + a.i = omega arith in
    sym (get_or-eq_default a.bytes.now 0 h)
