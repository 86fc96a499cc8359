-- Numbers of 16 bits: of two lists (`fits-append`, `fits-parts`), of a number and a list (`fits_head`), of a list that is lent (`fits-lent`), and of one that fits (`fits-at`); of numbers with even steps the last decides (`fits-evenly`).
-- Assumes nothing.
use mathlib.Core.Path.{◌≡◌, refl, sym, ap, ◌∙◌}
use mathlib.Core.Bool.{Bool, true, false, ◌&&◌}
use mathlib.Core.List.{List, [], ◌∷◌, ◌++◌}
use Prim.Native.Nat.{ℕ, zero, suc, ◌+◌, ◌*◌, ◌<◌, ◌≤◌}
use native.Mathlib.Nat.{zero-mul, add-zero}
use native.Mathlib.Omega.{arith}
use borrow.Author.Tests.{lt-ltb, le-ltb, ltb-true, ltb-false}
use lib.Dec.{ltb}
use lib.ListN.{length, get_or}
use Rattle.laws.proofs.TestLaws.{both, and_assoc, and_true, and_false}
use Rattle.layouts.specs.Tables.{evenly}
use Rattle.layouts.specs.Lookups.{fits}

pub fits-append : (a b : List ℕ) → fits (a ++ b) ≡ (fits a && fits b)
unfolding fits
fits-append [] b = refl
fits-append (w ∷ a) b = rw (fits-append a b) (and_assoc (ltb w 65536) (fits a) (fits b))

pub fits-parts : (a b : List ℕ) → fits (a ++ b) ≡ true → (fits a ≡ true) × (fits b ≡ true)
fits-parts a b e = both (fits a) (fits b) (sym (fits-append a b) ∙ e)

pub fits_head : (w : ℕ) (ws : List ℕ) → fits (w ∷ ws) ≡ true → (w < 65536) × (fits ws ≡ true)
unfolding fits
fits_head w ws e =
    let p = both (ltb w 65536) (fits ws) e in
    (ltb-true w 65536 p.0, p.1)

-- ---- by each number
pub fits-lent : (ws : List ℕ) → ((i : ℕ) → get_or ws i 0 < 65536) → fits ws ≡ true
unfolding fits
fits-lent [] h = refl
fits-lent (w ∷ ws) h = rw (lt-ltb w 65536 (h 0), fits-lent ws (λ i. h (suc i)))

pub fits-at : (ws : List ℕ) → fits ws ≡ true → (i : ℕ) → get_or ws i 0 < 65536
fits-at [] e i = omega arith
fits-at (w ∷ ws) e zero = (fits_head w ws e).0
fits-at (w ∷ ws) e (suc i) = fits-at ws (fits_head w ws e).1 i

-- ---- even steps
pub length-evenly : (c o by : ℕ) → length (evenly c o by) ≡ c
length-evenly zero o by = refl
length-evenly (suc c) o by = ap suc (length-evenly c (o + by) by)

-- of two tests against one limit that of the greater number decides
pub and-later : (a b m : ℕ) → a ≤ b → (ltb a m && ltb b m) ≡ ltb b m
and-later a b m h = go (ltb b m) refl
  where
    go : (t : Bool) → ltb b m ≡ t → (ltb a m && t) ≡ t
    go true e = rw (lt-ltb a m (omega (arith, ltb-true b m e)))
    go false e = and_false (ltb a m)

pub fits-evenly : (c o by : ℕ) → fits (evenly (suc c) o by) ≡ ltb (o + c * by) 65536
unfolding fits
fits-evenly zero o by = rw (zero-mul, add-zero) (and_true (ltb o 65536))
fits-evenly (suc c) o by = rw (fits-evenly c (o + by) by, sum o c by) (and-later o (o + suc c * by) 65536 (omega arith))
  where
    sum : (o c by : ℕ) → o + by + c * by ≡ o + suc c * by
    sum o c by = omega arith

-- ---- two tests that say the same
pub ltb-same : (a m b k : ℕ) → (a < m → b < k) → (b < k → a < m) → ltb a m ≡ ltb b k
ltb-same a m b k f g = go (ltb b k) refl
  where
    lt_false : b < k → k ≤ b → ⊥
    lt_false p q = omega arith

    not_lt : (a < m → ⊥) → m ≤ a
    not_lt n = omega arith

    go : (t : Bool) → ltb b k ≡ t → ltb a m ≡ t
    go true e = lt-ltb a m (g (ltb-true b k e))
    go false e = le-ltb a m (not_lt (λ h. lt_false (f h) (ltb-false b k e)))
