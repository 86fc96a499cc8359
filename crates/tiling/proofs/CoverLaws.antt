-- How the repeating tiles of a run cover its room: the numbers of crate fitting are those that the promises name (`Reckoned`, `reckoned`), and no others are (`covers_one`); of a run (`run-reckoned`).
-- Assumes nothing.
use mathlib.Core.Path.{◌≡◌, refl, sym, ap, ◌∙◌, subst}
use mathlib.Core.Bool.{Bool, true, false, true≢false, and-false}
use mathlib.Core.List.{List, [], ◌∷◌, map}
use mathlib.Core.Logic.{◌⊎◌, inl, inr}
use Prim.Native.Nat.{ℕ, zero, suc, ◌+◌, ◌-◌, ◌*◌, ◌/◌, ◌%◌, ◌<◌, ◌≤◌}
use native.Mathlib.Omega.{arith}
use native.Mathlib.Nat.{div-add-mod', div-mul-le_self, lt-div-mul-add, lt_of_mul-lt-mul_right, mul-le-mul_right, mul-lt-mul_of_pos_right, mod-lt}
use borrow.Author.Tests.{lt-ltb, le-ltb}
use lib.Dec.{T, ltb, leb→le, le→leb, ltb→lt, lt→ltb}
use lib.ListN.{length}
use lib.IntN.{ℤ, pos, negsuc, neg_ℤ, ◌*ℤ◌}
use lib.Signed.{lt_z, le_z, quot_z, ◌≤ℤ◌, ◌<ℤ◌, clash_ℤ}
use Rattle.laws.specs.Lists.{those}
use Rattle.letters.specs.Actions.{repeating}
use Rattle.fitting.specs.declared.Fit.{Fit}
use Rattle.fitting.specs.Fit.{count, copies, overlap, start, loose_fit, fit_of}
use Rattle.fitting.proofs.FitLaws.{tight, Above, both_pos, le_not_lt, nle_lt, not-twice, one-at-least, over, fit_le, fit_none, fit-one, fit-even, fit-left}
use Rattle.runs.specs.Records.{Record}
use Rattle.runs.specs.Runs.{acts, run, sum, room, repeating_width, tiles}
use Rattle.tiling.specs.Tiles.{Covers, too_wide, Laps, opening}

-- what is reckoned is c copies that overlap by o, as the promises say them, and no other overlap is
pub record Reckoned (room w : ℤ) (t c o : ℕ) : Type 0 where
  pub copies_are : copies room w t ≡ c
  pub overlap-is : overlap room w t ≡ pos o
  pub start_is : start room w t ≡ opening room w c
  pub covers : Covers room w t c
  pub laps : Laps room w t c o
  pub only : (p : ℕ) → Laps room w t c p → p ≡ o

-- ---- no two numbers of copies cover
-- a width is above 0, or it is not
sign : (w : ℤ) → (pos 0 <ℤ w) ⊎ (w ≤ℤ pos 0)
sign (pos zero) = inr (record { le = tt })
sign (pos (suc n)) = inl (record { lt = lt→ltb 0 (suc n) (omega arith) })
sign (negsuc n) = inr (record { le = tt })

pub covers_one : (room w : ℤ) (t c d : ℕ) → Covers room w t c → Covers room w t d → d ≡ c
covers_one room w t c d x y = by (sign w)
  where
    least : (c d : ℕ) → pos 0 <ℤ w → Covers room w t c → Covers room w t d → (c < d → ⊥)
    least c d p x y h = clash_ℤ (y.fewer p c h) (x.enough p)

    by : (pos 0 <ℤ w) ⊎ (w ≤ℤ pos 0) → d ≡ c
    by (inl p) = omega (arith, least c d p x y, least d c p y x)
    by (inr n) = y.once n ∙ sym (x.once n)

-- ---- tiles that do not exceed the room
module _ (room w : ℤ) (t n : ℕ) where
  loose : fit_of room w t ≡ loose_fit room n → too_wide room w n ≡ false → Covers room w t n → Reckoned room w t n 0
  unfolding fit_of loose_fit
  loose e f v =
      let half : quot_z room (pos 2) ≡ opening room w n = rw f in
      record {
        copies_are = ap (λ (x : Fit). x.copies) e;
        overlap-is = ap (λ (x : Fit). x.overlap) e;
        start_is = ap (λ (x : Fit). x.start) e ∙ half;
        covers = v;
        laps = record { covered = λ g. absurd (true≢false (sym g ∙ f)); largest = λ g. absurd (true≢false (sym g ∙ f)); none = λ g. refl };
        only = λ p l. l.none f;
      }

one-times : (w : ℤ) → pos 1 *ℤ w ≡ w
one-times (pos n) = ap pos (omega arith)
one-times (negsuc n) = ap (λ (k : ℕ). neg_ℤ (pos k)) (let e : 1 * suc n ≡ suc n = omega arith in e)

-- the room does not exceed w
covers_le : (room w : ℤ) (t : ℕ) → le_z room w ≡ true → Covers room w t 0
covers_le room w t e = record {
  enough = λ p. rw one-times (record { le = subst T (sym e) tt });
  fewer = λ p d h. absurd (omega (arith, h));
  once = λ n. rw (le_not_lt room w e) refl;
}

-- it does, and w is not above 0
not-above : (w : ℤ) → count w ≡ 0 → pos 0 <ℤ w → ⊥
unfolding count
not-above (pos zero) z p = absurd p.lt
not-above (pos (suc n)) z p = omega (arith, z)
not-above (negsuc n) z p = absurd p.lt

covers-none : (room w : ℤ) → count w ≡ 0 → Covers room w 0 0
covers-none room w z = record { enough = λ p. absurd (not-above w z p); fewer = λ p. absurd (not-above w z p); once = λ n. rw (and-false (lt_z w room)) }

covers-once : (room w : ℤ) (t : ℕ) → count w ≡ 0 → le_z room w ≡ false → 0 < t → Covers room w t 1
covers-once room w t z e h = record { enough = λ p. absurd (not-above w z p); fewer = λ p. absurd (not-above w z p); once = λ n. rw (nle_lt room w e, lt-ltb 0 t h) }

-- ---- w is above 0, and the room exceeds it
module _ (r v t : ℕ) (p : 0 < v) (q : v < r) where
  covers-above : (c : ℕ) → r ≤ (c + 1) * v → ((d : ℕ) → d < c → (d + 1) * v < r) → Covers (pos r) (pos v) t c
  covers-above c h g = record {
    enough = λ x. record { le = le→leb r ((c + 1) * v) h };
    fewer = λ x d k. record { lt = lt→ltb ((d + 1) * v) r (g d k) };
    once = λ x. absurd (let h : v ≤ 0 = leb→le v 0 x.le in omega arith);
  }

  even : r % v ≡ 0 → Reckoned (pos r) (pos v) t (r / v - 1) 0
  even m =
      let d = div-add-mod' r v in
      let one : 1 ≤ r / v = one-at-least r v p q in
      let n : r / v - 1 + 1 ≡ r / v = omega arith in
      let whole : (r / v - 1 + 1) * v ≡ r = rw n (omega (arith, d, m)) in
      loose (pos r) (pos v) t (r / v - 1) (fit-even r v p q t m)
      (rw (le-ltb r ((r / v - 1 + 1) * v) (omega (arith, whole))) (and-false (ltb 0 (r / v - 1))))
      (covers-above (r / v - 1) (omega (arith, whole)) (λ i k. omega (arith, whole, mul-lt-mul_of_pos_right {m = i + 1} {n = r / v - 1 + 1} (omega (arith, k)) p)))

  -- with D = copies × tiles
  module _ (s : 0 < t) (m : 0 < r % v) where
    abbrev D : ℕ
    D = r / v * t

    abbrev o : ℕ
    o = (v - r % v) / D

    some : 0 < D
    some = omega (arith, mul-lt-mul_of_pos_right {m = 0} (one-at-least r v p q) s)

    exceeds : too_wide (pos r) (pos v) (r / v) ≡ true
    exceeds = rw (lt-ltb 0 (r / v) (one-at-least r v p q)) (lt-ltb r ((r / v + 1) * v) (over r v p q))

    left_is : (r / v + 1) * v ≡ r + (v - r % v)
    left_is = omega (arith, div-add-mod' r v, mod-lt r p)

    -- what the copies take off
    lap_le : r + o * D ≤ (r / v + 1) * v
    lap_le = omega (arith, left_is, div-mul-le_self (v - r % v) D)

    lap_lt : (r / v + 1) * v < r + (o + 1) * D
    lap_lt = omega (arith, left_is, lt-div-mul-add {a = v - r % v} {b = D} some)

    only-lap : (k : ℕ) → r + k * D ≤ (r / v + 1) * v → (r / v + 1) * v < r + (k + 1) * D → k ≡ o
    only-lap k h g =
        let a : k * D < (o + 1) * D = omega (arith, h, lap_lt) in
        let b : o * D < (k + 1) * D = omega (arith, g, lap_le) in
        omega (arith, lt_of_mul-lt-mul_right D a, lt_of_mul-lt-mul_right D b)

    squeeze : Reckoned (pos r) (pos v) t (r / v) o
    unfolding fit_of tight
    squeeze =
        let e = fit-left r v p q t s m in
        let from : pos 0 ≡ opening (pos r) (pos v) (r / v) = rw exceeds in
        record {
          copies_are = ap (λ (x : Fit). x.copies) e;
          overlap-is = ap (λ (x : Fit). x.overlap) e;
          start_is = ap (λ (x : Fit). x.start) e ∙ from;
          covers = covers-above (r / v) (omega (arith, over r v p q)) (λ d k. omega (arith, div-add-mod' r v, m, mul-le-mul_right {m = d + 1} {n = r / v} v (omega (arith, k))));
          laps = record {
            covered = λ x. record { le = le→leb (r + o * D) ((r / v + 1) * v) lap_le };
            largest = λ x. record { lt = lt→ltb ((r / v + 1) * v) (r + (o + 1) * D) lap_lt };
            none = λ x. absurd (true≢false (sym exceeds ∙ x));
          };
          only = λ k l. only-lap k (leb→le (r + k * D) ((r / v + 1) * v) (l.covered exceeds).le) (ltb→lt ((r / v + 1) * v) (r + (k + 1) * D) (l.largest exceeds).lt);
        }

-- ---- every room, width and number of tiles; a width above 0 is that of some tile
pub reckoned : (room w : ℤ) (t : ℕ) → (pos 0 <ℤ w → 0 < t) → (c : ℕ) × (o : ℕ) × Reckoned room w t c o
reckoned room w t some = go (le_z room w) refl
  where
    flat : (t : ℕ) → le_z room w ≡ false → count w ≡ 0 → (c : ℕ) × (o : ℕ) × Reckoned room w t c o
    flat zero e z = (0, 0, loose room w 0 0 (fit_none room w z e) refl (covers-none room w z))
    flat (suc k) e z =
        let h : 0 < suc k = omega arith in
        (1, 0, loose room w (suc k) 1 (fit-one room w z e (suc k) h) (not-twice room w z e) (covers-once room w (suc k) z e h))

    above : (r v : ℕ) → Above room w r v → (c : ℕ) × (o : ℕ) × Reckoned room w t c o
    above r v a = rw (a.room-is, a.w_is) (by (r % v) refl)
      where
        tiled : 0 < t
        tiled = some (rw a.w_is (record { lt = lt→ltb 0 v a.some }))

        by : (m : ℕ) → r % v ≡ m → (c : ℕ) × (o : ℕ) × Reckoned (pos r) (pos v) t c o
        by zero m = (r / v - 1, 0, even r v t a.some a.less m)
        by (suc k) m = let h : 0 < r % v = omega (arith, m) in (r / v, o r v t a.some a.less tiled h, squeeze r v t a.some a.less tiled h)

    wide : (n : ℕ) → count w ≡ n → le_z room w ≡ false → (c : ℕ) × (o : ℕ) × Reckoned room w t c o
    wide zero z e = flat t e z
    wide (suc n) z e = above (count room) (count w) (both_pos room w (count room) (count w) refl refl e (λ y. omega (arith, y, z)))

    go : (b : Bool) → le_z room w ≡ b → (c : ℕ) × (o : ℕ) × Reckoned room w t c o
    go true e = (0, 0, loose room w t 0 (fit_le room w t e) refl (covers_le room w t e))
    go false e = wide (count w) refl e

-- ---- the run that a list begins with
some-tile : (l : List Record) → pos 0 <ℤ sum (pos 0) (map (λ (r : Record). r.width) l) → 0 < length l
unfolding sum
some-tile [] p = absurd p.lt
some-tile (r ∷ rs) p = omega arith

pub run-reckoned : (l : List Record) → (c : ℕ) × (o : ℕ) × Reckoned (room l) (repeating_width l) (tiles l) c o
unfolding repeating_width tiles
run-reckoned l = reckoned (room l) (repeating_width l) (tiles l) (some-tile (those (acts repeating) (run l)))
