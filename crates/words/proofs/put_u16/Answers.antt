-- `words::put_u16` meets its contract: a word's two bytes as the library makes them.
-- Assumes nothing.
use mathlib.Core.Path.{◌≡◌}
use Prim.Native.Nat.{◌/◌, ◌%◌}
use native.Mathlib.Omega.{arith}
use lib.ListN.{length-set}
use Rattle.words.proofs.WroteLaws.{one_word}
use Rattle.words.proofs.put_u16.Goals as goal

pub bounds-area-at-2 : goal.bounds-area-at-2
bounds-area-at-2 c = simp length-set (omega arith)

pub returns : goal.returns
returns c =
    let high : c.args.w / 256 % 256 ≡ c.args.w / 256 = omega (arith, c.ranges.w) in
    rw (c.to_be_bytes.ensures, high) (one_word c.args.area.now c.args.at c.args.w c.requires)
