-- Laws of `fit_of`: what it is in each case that the code tells apart: room does not exceed w (`fit_le`); w is not above 0 (`fit_none`, `fit-one`); w is above 0 and
-- the room is a multiple of it (`fit-even`), there are no tiles (`fit-bare`), or something is left (`fit-left`). And a struct that is returned (`loose-back`, `loose-lent`, `tight-back`).
-- Assumes nothing.
use Prim.Native.Nat.{ℕ, zero, suc, ◌+◌, ◌-◌, ◌<◌, ◌≤◌, ◌*◌, ◌/◌, ◌%◌}
use mathlib.Core.Path.{◌≡◌, refl, sym, ap, ◌∙◌}
use mathlib.Core.Bool.{true, false, and-false}
use native.Mathlib.Omega.{arith}
use native.Mathlib.Nat.{div-add-mod, div-add-mod', mod-lt, lt-div-mul-add, add-mul, div-le_self, le-div_iff_mul-le}
use borrow.Author.Tests.{leb-true, leb-false, lt-ltb, le-ltb}
use lib.IntN.{ℤ, pos, negsuc, neg_ℤ, ◌-ℤ◌, ◌*ℤ◌}
use lib.Signed.{mag, lt_z, le_z, quot_z}
use mir.Syntax.{w32}
use mir.Val.{SFits, to_z, of_z}
use mir.ValLaws.{to_z_pos}
use Rattle.fitting.specs.declared.Fit.{Fit}
use Rattle.fitting.specs.Fit.{count, whole, added, copies, excess, squeezed, overlap, start, loose_fit, fit_of}
use Rattle.fitting.proofs.SignedLaws.{back}

-- tiles that are squeezed: n copies that overlap by k each, from 0
unfoldable pub tight : ℕ → ℕ → Fit
tight n k = record { copies = n; overlap = pos k; start = pos 0 }

-- ---- numbers with signs
-- the order's two tests
pub le_not_lt : (a b : ℤ) → le_z a b ≡ true → lt_z b a ≡ false
le_not_lt (pos a) (pos b) e = le-ltb b a (leb-true a b e)
le_not_lt (pos a) (negsuc b) e = sym e
le_not_lt (negsuc a) (pos b) e = refl
le_not_lt (negsuc a) (negsuc b) e = le-ltb a b (leb-true b a e)

pub nle_lt : (a b : ℤ) → le_z a b ≡ false → lt_z b a ≡ true
nle_lt (pos a) (pos b) e = lt-ltb b a (leb-false a b e)
nle_lt (pos a) (negsuc b) e = refl
nle_lt (negsuc a) (pos b) e = sym e
nle_lt (negsuc a) (negsuc b) e = lt-ltb a b (leb-false b a e)

times-one : (w : ℤ) → w *ℤ pos 1 ≡ w
times-one (pos n) = ap pos (omega arith)
times-one (negsuc n) = ap (λ (k : ℕ). neg_ℤ (pos k)) (let e : suc n * 1 ≡ suc n = omega arith in e)

minus : (a r : ℕ) → r ≤ a → pos a -ℤ pos r ≡ pos (a - r)
minus a zero h = ap pos (omega arith)
minus a (suc r) h = rw (le-ltb a (suc r) h)

pub half-fits : {z : ℤ} → SFits w32 z → SFits w32 (quot_z z (pos 2))
half-fits {z = pos n} f = let h : n < 2147483648 = f.sfits in record { sfits = omega arith }
half-fits {z = negsuc n} f = let h : n < 2147483648 = f.sfits in record { sfits = at (suc n / 2) (omega arith) }
  where
    at : (m : ℕ) → m < 2147483648 → mag (neg_ℤ (pos m)) < 2147483648
    at zero p = omega arith
    at (suc m) p = omega arith

-- ---- by whether a copy was added, and squeezed
module _ (room w : ℤ) (t : ℕ) where
  fit_no : added room w t ≡ false → fit_of room w t ≡ loose_fit room (whole room w)
  unfolding fit_of copies overlap start squeezed loose_fit
  fit_no e = simp e

  fit_slack : added room w t ≡ true → lt_z room (pos (whole room w + 1 + 1) *ℤ w) ≡ false → fit_of room w t ≡ loose_fit room (whole room w + 1)
  unfolding fit_of copies overlap start squeezed loose_fit
  fit_slack e f = simp (e, f)

  fit-squeeze : added room w t ≡ true → lt_z room (pos (whole room w + 1 + 1) *ℤ w) ≡ true
      → fit_of room w t ≡ record { copies = whole room w + 1; overlap = quot_z (pos (whole room w + 1 + 1) *ℤ w -ℤ room) (pos ((whole room w + 1) * t)); start = pos 0 }
  unfolding fit_of copies overlap start squeezed excess
  fit-squeeze e f = simp (e, f)

  -- room does not exceed w
  whole_le : le_z room w ≡ true → whole room w ≡ 0
  unfolding whole
  whole_le e = simp (le_not_lt room w e)

  added_le : le_z room w ≡ true → added room w t ≡ false
  unfolding added
  added_le e = simp (whole_le e, times-one, le_not_lt room w e)

  pub fit_le : le_z room w ≡ true → fit_of room w t ≡ loose_fit room 0
  fit_le e = fit_no (added_le e) ∙ ap (loose_fit room) (whole_le e)

-- without tiles no copy is added
none-added : (room w : ℤ) → added room w 0 ≡ false
unfolding added
none-added room w = and-false (lt_z (w *ℤ pos (whole room w + 1)) room)

-- ---- w is not above 0, and room exceeds it
whole_zero : (room w : ℤ) → count w ≡ 0 → whole room w ≡ 0
unfolding whole count
whole_zero room (pos zero) z = simp and-false
whole_zero room (pos (suc n)) z = absurd (omega arith)
whole_zero room (negsuc n) z = simp and-false

pub not-twice : (room w : ℤ) → count w ≡ 0 → le_z room w ≡ false → lt_z room (pos 2 *ℤ w) ≡ false
unfolding count
not-twice (pos r) (pos zero) z e = le-ltb r 0 (omega arith)
not-twice (negsuc r) (pos zero) z e = e
not-twice room (pos (suc n)) z e = absurd (omega arith)
not-twice (pos r) (negsuc n) z e =
    let k : 2 * suc n ≡ suc (n + n + 1) = omega arith in rw k
not-twice (negsuc r) (negsuc n) z e =
    let k : 2 * suc n ≡ suc (n + n + 1) = omega arith in
    let h = leb-false n r e in
    rw k (le-ltb (n + n + 1) r (omega arith))

module _ (room w : ℤ) (z : count w ≡ 0) (e : le_z room w ≡ false) where
  pub fit_none : fit_of room w 0 ≡ loose_fit room 0
  fit_none = fit_no room w 0 (none-added room w) ∙ ap (loose_fit room) (whole_zero room w z)

  added_zero : (t : ℕ) → 0 < t → added room w t ≡ true
  unfolding added
  added_zero t h = simp (whole_zero room w z, times-one, nle_lt room w e, lt-ltb 0 t h)

  pub fit-one : (t : ℕ) → 0 < t → fit_of room w t ≡ loose_fit room 1
  fit-one t h =
      fit_slack room w t (added_zero t h) (simp (whole_zero room w z) (not-twice room w z e)) ∙ ap (λ (n : ℕ). loose_fit room (n + 1)) (whole_zero room w z)

-- ---- w is above 0, and room exceeds it
module _ (r v : ℕ) (p : 0 < v) (q : v < r) where
  pub one-at-least : 1 ≤ r / v
  one-at-least = (le-div_iff_mul-le p).1 (omega arith)

  whole_is : whole (pos r) (pos v) ≡ r / v - 1
  unfolding whole count
  whole_is = simp (lt-ltb v r q, lt-ltb 0 v p)

  next-is : whole (pos r) (pos v) + 1 ≡ r / v
  next-is = let h = one-at-least in let b = whole_is in omega arith

  pub fit-bare : fit_of (pos r) (pos v) 0 ≡ loose_fit (pos r) (r / v - 1)
  fit-bare = fit_no (pos r) (pos v) 0 (none-added (pos r) (pos v)) ∙ ap (loose_fit (pos r)) whole_is

  added-even : (t : ℕ) → r % v ≡ 0 → added (pos r) (pos v) t ≡ false
  unfolding added
  added-even t m =
      let d = div-add-mod r v in
      simp (next-is, le-ltb (v * (r / v)) r (omega arith))

  pub fit-even : (t : ℕ) → r % v ≡ 0 → fit_of (pos r) (pos v) t ≡ loose_fit (pos r) (r / v - 1)
  fit-even t m = fit_no (pos r) (pos v) t (added-even t m) ∙ ap (loose_fit (pos r)) whole_is

  added-left : (t : ℕ) → 0 < t → 0 < r % v → added (pos r) (pos v) t ≡ true
  unfolding added
  added-left t h m =
      let d = div-add-mod r v in
      simp (next-is, lt-ltb (v * (r / v)) r (omega arith), lt-ltb 0 t h)

  pub over : r < (r / v + 1) * v
  over = let h = lt-div-mul-add {a = r} p in rw (add-mul (r / v) 1 v) (omega arith)

  left_is : (r / v + 1) * v - r ≡ v - r % v
  left_is = let d = div-add-mod' r v in let m = mod-lt r p in rw (add-mul (r / v) 1 v) (omega arith)

  pub fit-left : (t : ℕ) → 0 < t → 0 < r % v → fit_of (pos r) (pos v) t ≡ tight (r / v) ((v - r % v) / (r / v * t))
  unfolding tight
  fit-left t h m =
      fit-squeeze (pos r) (pos v) t (added-left t h m) (simp next-is (lt-ltb r ((r / v + 1) * v) over)) ∙ simp (next-is, minus ((r / v + 1) * v) r (omega (arith, over)), left_is)

-- ---- the code's view: room and w by their counts
pub record Above (room w : ℤ) (r v : ℕ) : Type 0 where
  pub room-is : room ≡ pos r
  pub w_is : w ≡ pos v
  pub less : v < r
  pub some : 0 < v

pub both_pos : (room w : ℤ) (r v : ℕ) → r ≡ count room → v ≡ count w → le_z room w ≡ false → (v ≡ 0 → ⊥) → Above room w r v
unfolding count
both_pos (pos r') (pos v') r v a b e n =
    record { room-is = ap pos (sym a); w_is = ap pos (sym b); less = (let h = leb-false r' v' e in omega arith); some = omega arith }
both_pos (negsuc r') (pos v') r v a b e n = let k : ◌≡◌ {A = ℕ} 0 1 = cc in absurd (omega arith)
both_pos room (negsuc v') r v a b e n = absurd (n b)

-- ---- a struct that is returned, its signed fields read back
-- half of what fits
pub loose-back : {room : ℤ} (n : ℕ) → SFits w32 room → ◌≡◌ {A = Fit} record { copies = n; overlap = pos 0; start = to_z w32 (of_z w32 (quot_z (to_z w32 (of_z w32 room)) (pos 2))) } (loose_fit room n)
unfolding loose_fit
loose-back n f = ap (λ (z : ℤ). record { copies = n; overlap = pos 0; start = z }) (rw (back f) (back (half-fits f)))

-- what is made of a room that was lent
pub loose-lent : (room w : ℤ) (t n : ℕ) {x : Fit} → SFits w32 room → x ≡ loose_fit (to_z w32 (of_z w32 room)) n → fit_of room w t ≡ loose_fit room n → x ≡ fit_of room w t
loose-lent room w t n f e g = (rw (back f) at e) ∙ sym g

-- an overlap is no wider than w, which fits
pub narrow : {z : ℤ} {v : ℕ} → z ≡ pos v → SFits w32 z → (x d : ℕ) → SFits w32 (pos ((v - x) / d))
narrow {z} {v} e f x d =
    let g : SFits w32 (pos v) = rw e at f in
    let h : v < 2147483648 = g.sfits in
    let q = div-le_self (v - x) d in
    record { sfits = omega arith }

pub tight-back : (room w : ℤ) (t n k : ℕ) → SFits w32 (pos k) → fit_of room w t ≡ tight n k
    → ◌≡◌ {A = Fit} record { copies = n; overlap = to_z w32 k; start = pos 0 } (fit_of room w t)
unfolding tight
tight-back room w t n k f g = ap (λ (z : ℤ). record { copies = n; overlap = z; start = pos 0 }) (to_z_pos w32 k f.sfits) ∙ sym g
