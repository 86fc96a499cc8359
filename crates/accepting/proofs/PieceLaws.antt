-- The parts of which lookups are made, by their next word: certain words (`these-short`, `these-wrong`, `these-more`, `these-none`), several of any value (`several-short`, `several_taken`), glyphs that rise (`scaled`, `next-sum`, `rise-test`, `rise-short`, `rise-wrong`, `rise-more`, `rise-none`).
-- Assumes nothing.
use mathlib.Core.Path.{◌≡◌, refl, sym}
use mathlib.Core.Bool.{Bool, true, false, ◌&&◌, ◌||◌}
use mathlib.Core.List.{List, [], ◌∷◌}
use Prim.Native.Nat.{ℕ, zero, suc, ◌+◌, ◌-◌, ◌*◌, ◌≤◌, ◌<◌}
use native.Mathlib.Omega.{arith}
use native.Mathlib.Nat.{mul-le-mul_right}
use borrow.Author.Tests.{eq-eqb, ne_eqb, le-leb, lt-leb, lt-ltb, le-ltb, ltb-true, ltb-false}
use lib.Dec.{eqb, leb, ltb}
use lib.ListN.{length}
use Rattle.laws.proofs.TestLaws.{and_false}
use Rattle.words.specs.Words.{word_at, words_at}
use Rattle.scanning.specs.Scans.{any, exactly, several, rise}
use Rattle.std.specs.Prelude.{Ok, Err}
use Rattle.accepting.specs.declared.Fault.TheVariants.{Wrong, Short}
use Rattle.accepting.specs.Scanned.{Scanned, after, Took, these}
use Rattle.accepting.proofs.TookLaws.{took_none, took_map, one-short, one-wrong, one_right}

-- ---- certain words
module _ (x : ℕ) (xs : List ℕ) {end : ℕ} (b : List ℕ) (p : ℕ) where
  pub these-short : length b < p + 2 → Took (these (x ∷ xs)) tt end b p (Err Short)
  unfolding exactly
  these-short h = one-short (eqb x) (λ w k. exactly xs (k tt)) b p h

  pub these-wrong : p + 2 ≤ length b → (word_at b p ≡ x → ⊥) → Took (these (x ∷ xs)) tt end b p (Err (Wrong p))
  unfolding exactly
  these-wrong h d = one-wrong (eqb x) (λ w k. exactly xs (k tt)) b p h (ne_eqb x (word_at b p) (λ e. d (sym e)))

  pub these-more : p + 2 ≤ length b → word_at b p ≡ x → (r : Scanned) → Took (these xs) tt end b (p + 2) r → Took (these (x ∷ xs)) tt end b p r
  unfolding exactly
  these-more h e r t = one_right (eqb x) (λ w k. exactly xs (k tt)) b p h (eq-eqb x (word_at b p) (sym e)) r t

pub these-none : {end : ℕ} (b : List ℕ) (p : ℕ) → p ≡ end → p ≤ length b → Took (these []) tt end b p (Ok p)
unfolding exactly
these-none b p e h = took_none b p e h

-- ---- several words of any value
pub several_taken : (n : ℕ) (b : List ℕ) (p : ℕ) → p + 2 * n ≤ length b → Took (several n) (words_at b p n) (p + 2 * n) b p (Ok (p + 2 * n))
unfolding several words_at
several_taken zero b p h = let e : p + 0 ≡ p = omega arith in rw e (took_none b p refl (omega arith))
several_taken (suc n) b p h =
    let e : p + 2 * suc n ≡ p + 2 + 2 * n = omega arith in
    one_right any (λ w k. several n (λ ws. k (w ∷ ws))) b p (omega arith) refl (Ok (p + 2 * suc n))
    (rw e (took_map (several n) (λ ws. word_at b p ∷ ws) (several_taken n b (p + 2) (omega arith))))

pub several-short : (n : ℕ) (value : List ℕ) {end : ℕ} (b : List ℕ) (p : ℕ) → p ≤ length b → length b < p + 2 * n → Took (several n) value end b p (Err Short)
unfolding after several
several-short zero value b p l h = absurd (omega arith)
several-short (suc n) value {end} b p l h = go (ltb (length b) (p + 2)) refl (λ g. several-short n [] b (p + 2) g (omega arith))
  where
    stops : Took (several n) [] end b (p + 2) (Err Short) → (w : ℕ) → Took (λ k. several n (λ ws. k (w ∷ ws))) value end b (p + 2) (Err Short)
    stops t w = record { goes = λ k. t.goes (λ ws. k (w ∷ ws)); place = tt }

    go : (t : Bool) → ltb (length b) (p + 2) ≡ t → (p + 2 ≤ length b → Took (several n) [] end b (p + 2) (Err Short)) → Took (several (suc n)) value end b p (Err Short)
    go true e rec = one-short any (λ w k. several n (λ ws. k (w ∷ ws))) b p (ltb-true (length b) (p + 2) e)
    go false e rec =
        let g : p + 2 ≤ length b = ltb-false (length b) (p + 2) e in
        one_right any (λ w k. several n (λ ws. k (w ∷ ws))) b p g refl (Err Short) (stops (rec g) (word_at b p))

-- ---- glyphs that rise
-- a product by 0 or 1
pub scaled : (apart left : ℕ) → apart ≤ 1 → apart * left ≤ left
scaled apart left h = omega (arith, mul-le-mul_right left h)

-- what the highest glyph may be, and what those behind it ask for, one glyph on
pub next-sum : (apart left high : ℕ) → 0 < left → high + apart * left ≡ 65535 → high + apart + apart * (left - 1) ≡ 65535
next-sum apart zero high h e = absurd (omega arith)
next-sum apart (suc left) high h e = let less : suc left - 1 ≡ left = omega arith in rw less (omega (arith, e))

-- the test of a glyph, by what it fails; `behind` is what those behind it ask for
pub rise-test : (low high w behind : ℕ) → high + behind ≡ 65535 → (ltb w low || ltb high w) ≡ true → (leb low w && ltb (w + behind) 65536) ≡ false
rise-test low high w behind sum e = go (ltb w low) refl e
  where
    go : (t : Bool) → ltb w low ≡ t → (t || ltb high w) ≡ true → (leb low w && ltb (w + behind) 65536) ≡ false
    go true f e = rw (lt-leb low w (ltb-true w low f))
    go false f e = rw (le-ltb (w + behind) 65536 (omega (arith, ltb-true high w e, sum))) (and_false (leb low w))

module _ (apart : ℕ) {end : ℕ} (b : List ℕ) (p : ℕ) where
  pub rise-short : (left low : ℕ) {value : List ℕ} → 0 < left → length b < p + 2 → Took (rise apart left low) value end b p (Err Short)
  unfolding rise
  rise-short zero low h s = absurd (omega arith)
  rise-short (suc n) low h s = one-short _ (λ w k. rise apart n (w + apart) (λ ws. k (w ∷ ws))) b p s

  pub rise-wrong :
      (left low : ℕ) {value : List ℕ} → p + 2 ≤ length b → (leb low (word_at b p) && ltb (word_at b p + apart * left) 65536) ≡ false
      → Took (rise apart (left + 1) low) value end b p (Err (Wrong p))
  unfolding rise
  rise-wrong left low h t =
      let e : left + 1 ≡ suc left = omega arith in
      rw e (one-wrong _ (λ w k. rise apart left (w + apart) (λ ws. k (w ∷ ws))) b p h t)

  pub rise-more :
      (left low : ℕ) → p + 2 ≤ length b → low ≤ word_at b p → word_at b p + apart * left < 65536 → (r : Scanned)
      → Took (rise apart left (word_at b p + apart)) (words_at b (p + 2) left) end b (p + 2) r → Took (rise apart (left + 1) low) (words_at b p (left + 1)) end b p r
  unfolding rise words_at
  rise-more left low h lo hi r t =
      let e : left + 1 ≡ suc left = omega arith in
      rw e (one_right _ (λ w k. rise apart left (w + apart) (λ ws. k (w ∷ ws))) b p h (rw (le-leb low (word_at b p) lo, lt-ltb (word_at b p + apart * left) 65536 hi)) r (took_map (rise apart left (word_at b p + apart)) (λ ws. word_at b p ∷ ws) t))

pub rise-none : (apart low : ℕ) {end : ℕ} (b : List ℕ) (p : ℕ) → p ≡ end → p ≤ length b → Took (rise apart 0 low) (words_at b p 0) end b p (Ok p)
unfolding rise words_at
rise-none apart low b p e h = took_none b p e h
