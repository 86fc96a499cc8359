-- A number that is held as 255 passes the same bounds: whatever is refused with 3 is refused, and nothing else.
-- Assumes nothing.
use Prim.Native.Nat.{ℕ, ◌<◌, min}
use mathlib.Core.Bool.{Bool, true, false}
use mathlib.Core.Path.{◌≡◌, refl, sym, ◌∙◌}
use native.Mathlib.Nat.{min-eq_left, min-eq_right}
use native.Mathlib.Omega.{arith}
use lib.Dec.{leb}
use borrow.Author.Tests.{leb-true, leb-false, lt-leb}

pub held-bound : (v bound : ℕ) → bound < 255 → leb (min v 255) bound ≡ leb v bound
held-bound v bound h = go (leb v 255) refl
  where
    go : (a : Bool) → leb v 255 ≡ a → leb (min v 255) bound ≡ leb v bound
    go true e = rw (min-eq_left {n = v} {m = 255} (leb-true v 255 e))
    go false e =
        let l : 255 < v = leb-false v 255 e in
        rw (min-eq_right {n = 255} {m = v} (omega arith)) (lt-leb 255 bound h ∙ sym (lt-leb v bound (omega arith)))
