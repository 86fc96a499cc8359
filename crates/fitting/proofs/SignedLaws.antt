-- Laws of signed numbers. A signed local holds bits, so that a value is read back from them (`back`, `ret`); the nearest number of 32 bits by the code's tests
-- (`clamp_hi`, `clamp_lo`, `clamp_in`, `clamp_id`); what fits 32 bits (`clamp_fits`, `sat_add-fits`, `sat_sub-fits`) and 64 (`widen`,
-- `add_fits`, `sub_fits`); and a sum of two numbers that are widened for it (`wide_fits`, `widened`, `nearest`).
-- Assumes nothing.
use Prim.Native.Nat.{ℕ, zero, suc, ◌+◌, ◌-◌, ◌<◌, ◌≤◌}
use mathlib.Core.Path.{◌≡◌, ap, ◌∙◌}
use mathlib.Core.Bool.{Bool, true, false, cond, false≢true}
use native.Mathlib.Omega.{arith}
use borrow.Author.Tests.{ltb-true, ltb-false}
use lib.Dec.{ltb}
use lib.IntN.{ℤ, pos, negsuc, neg_ℤ, sub_ℕ, ◌+ℤ◌, ◌-ℤ◌}
use lib.Signed.{mag, lt_z}
use mir.Syntax.{w32, w64}
use mir.Val.{SFits, to_z, of_z}
use mir.Facts.{to_z-of_z}
use Rattle.fitting.specs.Saturating.{clamped, sat_add_lem, sat_sub_lem}

-- what was stored is read back
pub back : {z : ℤ} → SFits w32 z → to_z w32 (of_z w32 z) ≡ z
back f = to_z-of_z f

-- the same of 64 bits
pub back-wide : {z : ℤ} → SFits w64 z → to_z w64 (of_z w64 z) ≡ z
back-wide f = to_z-of_z f

-- a result that equals what fits, returned through a local
pub ret : {x y : ℤ} → SFits w32 y → x ≡ y → to_z w32 (of_z w32 x) ≡ y
ret f e = ap (λ (z : ℤ). to_z w32 (of_z w32 z)) e ∙ back f

-- ---- what fits
pub widen : {z : ℤ} → SFits w32 z → SFits w64 z
widen {z} f = let h : mag z < 2147483648 = f.sfits in record { sfits = omega arith }

-- ---- the nearest number of 32 bits, by the code's two tests: past the largest number or any above it, and so below
pub clamp_hi : (s : ℤ) (most : ℕ) → 2147483647 ≤ most → lt_z (pos most) s ≡ true → pos 2147483647 ≡ clamped s
unfolding clamped
clamp_hi (pos n) most l t = let h = ltb-true most n t in ap pos (omega arith)
clamp_hi (negsuc n) most l t = absurd (false≢true t)

pub clamp_lo : (s : ℤ) (most : ℕ) → 2147483647 ≤ most → lt_z s (negsuc most) ≡ true → negsuc 2147483647 ≡ clamped s
unfolding clamped
clamp_lo (pos n) most l t = absurd (false≢true t)
clamp_lo (negsuc n) most l t = let h = ltb-true most n t in ap negsuc (omega arith)

-- neither, and each limit is one of 32 bits
pub clamp_in : (s : ℤ) (most least : ℕ) → most < 2147483648 → least < 2147483648 → lt_z (pos most) s ≡ false → lt_z s (negsuc least) ≡ false → SFits w32 s
clamp_in (pos n) most least l m t u = let h = ltb-false most n t in record { sfits = omega arith }
clamp_in (negsuc n) most least l m t u = let h = ltb-false least n u in record { sfits = omega arith }

-- a number that fits is its own nearest
pub clamp_id : {s : ℤ} → SFits w32 s → clamped s ≡ s
unfolding clamped
clamp_id {s = pos n} f = let h : n < 2147483648 = f.sfits in ap pos (omega arith)
clamp_id {s = negsuc n} f = let h : n < 2147483648 = f.sfits in ap negsuc (omega arith)

-- ---- what the sums are within
pub clamp_fits : (s : ℤ) → SFits w32 (clamped s)
unfolding clamped
clamp_fits (pos n) = record { sfits = omega arith }
clamp_fits (negsuc n) = record { sfits = omega arith }

-- a difference of two naturals is no larger than the larger
sub_mag : (a b m : ℕ) → a ≤ m → b ≤ m → mag (sub_ℕ a b) ≤ m
sub_mag a b m p q = at (ltb a b)
  where
    at : (t : Bool) → mag (cond t (negsuc (b - suc a)) (pos (a - b))) ≤ m
    at true = omega arith
    at false = omega arith

-- a bound on a sum, in magnitudes
add_mag : (a b : ℤ) (m : ℕ) → mag a < m → mag b < m → mag (a +ℤ b) < m + m
add_mag (pos a) (pos b) m p q = omega arith
add_mag (pos a) (negsuc b) m p q = let h = sub_mag a (suc b) m (omega arith) (omega arith) in omega arith
add_mag (negsuc a) (pos b) m p q = let h = sub_mag b (suc a) m (omega arith) (omega arith) in omega arith
add_mag (negsuc a) (negsuc b) m p q = omega arith

neg_mag : (a : ℤ) (m : ℕ) → mag a < m → mag (neg_ℤ a) < m + 1
neg_mag (pos a) m p = at a p
  where
    at : (a : ℕ) → a < m → mag (neg_ℤ (pos a)) < m + 1
    at zero p = omega arith
    at (suc a) p = omega arith
neg_mag (negsuc a) m p = omega arith

pub add_fits : {a b : ℤ} → SFits w32 a → SFits w32 b → SFits w64 (a +ℤ b)
add_fits {a} {b} f g =
    let h = add_mag a b 2147483648 f.sfits g.sfits in record { sfits = omega arith }

pub sub_fits : {a b : ℤ} → SFits w32 a → SFits w32 b → SFits w64 (a -ℤ b)
sub_fits {a} {b} f g =
    let k = neg_mag b 2147483648 g.sfits in
    let p : mag a < 2147483648 = f.sfits in
    let h = add_mag a (neg_ℤ b) 2147483649 (omega arith) (omega arith) in record { sfits = omega arith }

pub sat_add-fits : (a b : ℤ) → SFits w32 (sat_add_lem a b)
unfolding sat_add_lem
sat_add-fits a b = clamp_fits _

pub sat_sub-fits : (a b : ℤ) → SFits w32 (sat_sub_lem a b)
unfolding sat_sub_lem
sat_sub-fits a b = clamp_fits _

-- ---- a number that is widened through locals: it fits, and is what it was
pub wide_fits : {z : ℤ} → SFits w32 z → SFits w64 (to_z w32 (of_z w32 z))
wide_fits f = rw (back f) (widen f)

pub widened : {z : ℤ} → SFits w32 z → to_z w64 (of_z w64 (to_z w32 (of_z w32 z))) ≡ z
widened f = rw (back f) (back-wide (widen f))

-- the nearest number of what an operation makes of two such, returned through a local
pub nearest :
    (op : ℤ → ℤ → ℤ) {a b r : ℤ} → SFits w32 a → SFits w32 b → SFits w64 (op a b)
    → r ≡ clamped (to_z w64 (of_z w64 (op (to_z w64 (of_z w64 (to_z w32 (of_z w32 a)))) (to_z w64 (of_z w64 (to_z w32 (of_z w32 b)))))))
    → to_z w32 (of_z w32 r) ≡ clamped (op a b)
nearest op f g h e = ret (clamp_fits _) (rw (widened f, widened g, back-wide h) at e)
