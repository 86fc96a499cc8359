-- A field, read digit by digit: the state behind it is that of its number, where it has the form, and else that of a text of other form.
-- Assumes nothing.
use Prim.Native.Nat.{ℕ, suc, ◌+◌, ◌*◌, ◌^◌, ◌≤◌, ◌<◌}
use mathlib.Core.Bool.{Bool, true, false, cond, not, ◌&&◌, ◌||◌, and-true, and-false, or-true, false≢true}
use mathlib.Core.List.{List, [], ◌∷◌}
use mathlib.Core.Path.{◌≡◌, refl, sym, ap, ◌∙◌}
use native.Mathlib.Nat.{add-zero, zero-add, zero-mul, pow-suc, mul-le-mul, pow-le-pow_right}
use native.Mathlib.Numerals.{add-one}
use native.Mathlib.Omega.{arith}
use lib.Dec.{leb, ltb, eqb}
use lib.ListN.{length}
use borrow.Author.Tests.{ltb-true, ltb-false, lt-ltb, le-leb, lt-leb, ne_eqb}
use Rattle.entries.specs.declared.State.{State}
use Rattle.entries.specs.Form.{digit, all_digits, value_from, value, bare}
use Rattle.entries.specs.Steps.{base, most, other, leads, follows, typed}
use Rattle.entries.proofs.StepLaws.{base-few, most-few}

-- The digits of a field, one after the other.
abbrev pub run_digits : State → List ℕ → State
run_digits s [] = s
run_digits s (b ∷ bs) = run_digits (typed s (digit b)) bs

pub other_stays : (d : ℕ) → typed other d ≡ other
unfolding typed follows
other_stays d = refl

pub digits-other : (ds : List ℕ) → run_digits other ds ≡ other
digits-other [] = refl
digits-other (b ∷ bs) = ap (λ (s : State). run_digits s bs) (other_stays (digit b)) ∙ digits-other bs

most-some : (k : ℕ) → 1 ≤ most k
most-some k = go (eqb k 0)
  where
    go : (b : Bool) → 1 ≤ cond b 6 3
    go true = omega arith
    go false = omega arith

-- Five digits hold what a sixth may follow.
few-small : (k d v : ℕ) → d < most k → v < 16 ^ d → v < 1048576
few-small k d v h l = omega (arith, pow-le-pow_right {n = 16} (omega arith) {i = d} {j = 5} (omega (arith, most-few k)))

digit_grows : (k d v x : ℕ) → v < 16 ^ d → x < base k → v * base k + x < 16 ^ (d + 1)
digit_grows k d v x h l =
    rw (add-one d, pow-suc 16 d) (omega (arith, mul-le-mul {n₁ = v} {m₁ = base k} {n₂ = v} {m₂ = 16} (omega arith) (base-few k), base-few k))

leads-later : (k d v : ℕ) → 1 ≤ d → leads k (d + 1) v ≡ false
leads-later k d v h = rw (ne_eqb (d + 1) 1 (λ e. omega arith), and-false)

-- The states of one field: all but its digits and their number stay.
module _ (k code width kind lines : ℕ) (field : ltb k 3 ≡ true) where
  abbrev pub at : ℕ → ℕ → State
  at d v = record { field = k; digits = d; value = v; code = code; width = width; kind = kind; lines = lines }

  follows-at : (d v x : ℕ) → ltb x (base k) ≡ true → ltb d (most k) ≡ true → v < 16 ^ d → leads k d v ≡ false → typed (at d v) x ≡ at (d + 1) (v * base k + x)
  unfolding typed follows
  follows-at d v x p q l z = rw (field, p, q, lt-ltb v 1048576 (few-small k d v (ltb-true d (most k) q) l), z)

  no_digit : (d v x : ℕ) → ltb x (base k) ≡ false → typed (at d v) x ≡ other
  unfolding typed follows
  no_digit d v x p = rw (field, p)

  one_too_many : (d v x : ℕ) → ltb d (most k) ≡ false → typed (at d v) x ≡ other
  unfolding typed follows
  one_too_many d v x p = rw (field, p, and-false)

  behind_zero : (d v x : ℕ) → leads k d v ≡ true → typed (at d v) x ≡ other
  unfolding typed follows
  behind_zero d v x p = rw (field, p, and-false, and-false, and-false)

  -- Digits behind at least one, which is no zero in front.
  digits_more :
      (ds : List ℕ) (d v : ℕ) → 1 ≤ d → d ≤ most k → v < 16 ^ d → leads k d v ≡ false
      → run_digits (at d v) ds ≡ cond (leb (d + length ds) (most k) && all_digits (base k) ds) (at (d + length ds) (value_from (base k) v ds)) other
  digits_more [] d v o m l z = rw (add-zero d, le-leb d (most k) m)
  digits_more (x ∷ xs) d v o m l z = go (ltb (digit x) (base k)) refl (ltb d (most k)) refl (digits_more xs (d + 1) (v * base k + digit x) (omega arith))
    where
      go :
          (a : Bool) → ltb (digit x) (base k) ≡ a → (b : Bool) → ltb d (most k) ≡ b
          → (d + 1 ≤ most k → v * base k + digit x < 16 ^ (d + 1) → leads k (d + 1) (v * base k + digit x) ≡ false
          → run_digits (at (d + 1) (v * base k + digit x)) xs
          ≡ cond (leb (d + 1 + length xs) (most k) && all_digits (base k) xs) (at (d + 1 + length xs) (value_from (base k) (v * base k + digit x) xs)) other)
          → run_digits (typed (at d v) (digit x)) xs
          ≡ cond (leb (d + suc (length xs)) (most k) && (a && all_digits (base k) xs)) (at (d + suc (length xs)) (value_from (base k) (v * base k + digit x) xs)) other
      go true e true f ih =
          let same : d + 1 + length xs ≡ d + suc (length xs) = omega arith in
          let h : d < most k = ltb-true d (most k) f in
          ap (λ (s : State). run_digits s xs) (follows-at d v (digit x) e f l z)
          ∙ rw same at (ih (omega arith) (digit_grows k d v (digit x) l (ltb-true (digit x) (base k) e)) (leads-later k d (v * base k + digit x) o))
      go true e false f ih =
          let h : most k ≤ d = ltb-false d (most k) f in
          ap (λ (s : State). run_digits s xs) (one_too_many d v (digit x) f)
          ∙ digits-other xs
          ∙ sym (rw (lt-leb (d + suc (length xs)) (most k) (omega arith)))
      go false e b f ih = ap (λ (s : State). run_digits s xs) (no_digit d v (digit x) e) ∙ digits-other xs ∙ sym (rw and-false)

  -- A digit that is no zero in front, or may be one.
  no_zero : (x : ℕ) (xs : List ℕ) → leads k 1 (0 * base k + digit x) ≡ false → (eqb k 0 || bare (x ∷ xs)) ≡ true
  no_zero x [] f = or-true (eqb k 0)
  no_zero x (y ∷ ys) f = go (eqb k 0) (eqb (digit x) 0) (rw (zero-mul, zero-add) at f)
    where
      go : (a z : Bool) → (not a && z) ≡ false → (a || not z) ≡ true
      go true z f = refl
      go false true f = absurd (false≢true (sym f))
      go false false f = refl

  -- A zero in front is the whole field, or it is of other form.
  zero_front :
      (x : ℕ) (xs : List ℕ) → leads k 1 (0 * base k + digit x) ≡ true
      → run_digits (at 1 (0 * base k + digit x)) xs
      ≡ cond (leb (suc (length xs)) (most k) && (all_digits (base k) xs && (eqb k 0 || bare (x ∷ xs)))) (at (suc (length xs)) (value_from (base k) (0 * base k + digit x) xs)) other
  zero_front x [] f = rw (le-leb 1 (most k) (most-some k), or-true)
  zero_front x (y ∷ ys) f =
      ap (λ (s : State). run_digits s ys) (behind_zero 1 (0 * base k + digit x) (digit y) f)
      ∙ digits-other ys
      ∙ sym (rw (go (eqb k 0) (eqb (digit x) 0) (rw (zero-mul, zero-add) at f), and-false, and-false))
    where
      go : (a z : Bool) → (not a && z) ≡ true → (a || not z) ≡ false
      go true z f = absurd (false≢true f)
      go false true f = refl
      go false false f = absurd (false≢true f)

  -- A whole field: its digits are of the base, not too many, and without a zero in front where it may have none.
  pub field_run :
      (ds : List ℕ)
      → run_digits (at 0 0) ds ≡ cond (leb (length ds) (most k) && (all_digits (base k) ds && (eqb k 0 || bare ds))) (at (length ds) (value (base k) ds)) other
  field_run [] = rw (le-leb 0 (most k) (omega arith), or-true)
  field_run (x ∷ xs) = go (ltb (digit x) (base k)) refl (leads k 1 (0 * base k + digit x)) refl
    where
      first : ltb (digit x) (base k) ≡ true → typed (at 0 0) (digit x) ≡ at 1 (0 * base k + digit x)
      first e = follows-at 0 0 (digit x) e (lt-ltb 0 (most k) (omega (arith, most-some k))) (omega arith) (rw and-false)

      go :
          (a : Bool) → ltb (digit x) (base k) ≡ a → (z : Bool) → leads k 1 (0 * base k + digit x) ≡ z
          → run_digits (typed (at 0 0) (digit x)) xs
          ≡ cond (leb (suc (length xs)) (most k) && ((a && all_digits (base k) xs) && (eqb k 0 || bare (x ∷ xs)))) (at (suc (length xs)) (value_from (base k) (0 * base k + digit x) xs)) other
      go false e z f = ap (λ (s : State). run_digits s xs) (no_digit 0 0 (digit x) e) ∙ digits-other xs ∙ sym (rw and-false)
      go true e false f =
          let same : 1 + length xs ≡ suc (length xs) = omega arith in
          ap (λ (s : State). run_digits s xs) (first e)
          ∙ rw same
          at (digits_more xs 1 (0 * base k + digit x) (omega arith) (most-some k)
          (digit_grows k 0 0 (digit x) (omega arith) (ltb-true (digit x) (base k) e))
          f)
          ∙ sym (rw (no_zero x xs f, and-true))
      go true e true f = ap (λ (s : State). run_digits s xs) (first e) ∙ zero_front x xs f
