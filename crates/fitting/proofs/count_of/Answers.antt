-- `fitting::count_of` meets its contract: by the sign.
-- Assumes nothing.
use mathlib.Core.Path.{◌≡◌, refl, ◌∙◌}
use Prim.Native.Nat.{ℕ, ◌<◌}
use native.Mathlib.Omega.{arith}
use lib.IntN.{ℤ, pos, negsuc, nat_abs}
use mir.Syntax.{w32}
use mir.Val.{SFits}
use Rattle.std.specs.Prelude.{Result, Ok, Err}
use Rattle.std.specs.Result.{OkIff, result_unwrap_or}
use Rattle.std.specs.Int.{FitsUnsignedBits}
use Rattle.fitting.specs.Fit.{count}
use Rattle.fitting.proofs.SignedLaws.{back}
use Rattle.fitting.proofs.count_of.Goals as goal

counted : {E : Type 0} (r : Result ℕ E) (x : ℤ) → SFits w32 x → OkIff r (FitsUnsignedBits 64 x) (nat_abs x) → result_unwrap_or r 0 ≡ count x
unfolding count
counted (Ok n) (pos m) f h = h.1
counted (Ok n) (negsuc m) f h = absurd h.0
counted (Err d) (pos m) f h = let k : m < 2147483648 = f.sfits in absurd (h (omega arith))
counted (Err d) (negsuc m) f h = refl

pub returns : goal.returns
returns c =
    let f = c.ranges.x in
    c.unwrap_or.ensures ∙ counted c.try_from.result c.args.x f (rw (back f) at c.try_from.ensures)
