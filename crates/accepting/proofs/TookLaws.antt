-- Parts of a lookup taken from bytes. One word: the bytes end, it cannot stand, or the scan goes on behind it (`next-short`, `next-wrong`, `next-right`). Parts: where one stops, so does what begins with it (`took_else`); where one is taken, what follows it is taken behind it (`took_then`); a fault handed on (`handed`); a value may be made of what a part says (`took_map`, `took_these`), an end said in other words (`took_end`); a part that begins with one word (`one-short`, `one-wrong`, `one_right`); a loop over parts (`Leads`).
-- Assumes nothing.
use mathlib.Core.Path.{◌≡◌, refl, ap, subst, ◌∙◌}
use mathlib.Core.Bool.{Bool, true, false}
use mathlib.Core.List.{List, [], ◌∷◌}
use Prim.Native.Nat.{ℕ, suc, ◌+◌, ◌-◌, ◌/◌, ◌≤◌, ◌<◌}
use native.Mathlib.Omega.{arith}
use lib.ListN.{length}
use Rattle.words.specs.Words.{word_at, words_at}
use Rattle.words.proofs.WordLaws.{words-next, words-none, length-words}
use Rattle.scanning.specs.Scans.{Rest, wrong, short, next, exactly}
use Rattle.std.specs.Prelude.{Ok, Err}
use Rattle.std.specs.Result.{IsErr, IsErrAnd}
use Rattle.std.proofs.lemmas.Result.{err_from_is_err_and}
use Rattle.accepting.specs.declared.Fault.{Fault}
use Rattle.accepting.specs.declared.Fault.TheVariants.{Wrong, Short}
use Rattle.accepting.specs.Scanned.{Scanned, from, after, Took, these}

-- ---- one word
module _ (b : List ℕ) (p : ℕ) where
  from-none : length b < p + 2 → from b p ≡ []
  unfolding from
  from-none h = words-none b p _ (none (length b) p h)
    where
      none : (l p : ℕ) → l < p + 2 → (l - p) / 2 ≡ 0
      none l p h = omega arith

  from_next : p + 2 ≤ length b → from b p ≡ word_at b p ∷ from b (p + 2)
  unfolding from
  from_next h = words-next b p ((length b - p) / 2) (omega arith) ∙ ap (λ (m : ℕ). word_at b p ∷ words_at b (p + 2) m) (less (length b) p h)
    where
      less : (l p : ℕ) → p + 2 ≤ l → (l - p) / 2 - 1 ≡ (l - (p + 2)) / 2
      less l p h = omega arith

  length_from : length (from b p) ≡ (length b - p) / 2
  unfolding from
  length_from = length-words b p ((length b - p) / 2)

module _ (b : List ℕ) (p : ℕ) (test : ℕ → Bool) (k : ℕ → Rest) where
  pub next-short : length b < p + 2 → next test k (from b p) ≡ short
  unfolding next
  next-short h = rw (from-none b p h)

  pub next-wrong : p + 2 ≤ length b → test (word_at b p) ≡ false → next test k (from b p) ≡ wrong ((length b - p) / 2)
  unfolding next
  next-wrong h t = rw (from_next b p h, t) (ap wrong (count h))
    where
      count : p + 2 ≤ length b → suc (length (from b (p + 2))) ≡ (length b - p) / 2
      count h = omega (arith, length_from b (p + 2))

  pub next-right : p + 2 ≤ length b → test (word_at b p) ≡ true → next test k (from b p) ≡ k (word_at b p) (from b (p + 2))
  unfolding next
  next-right h t = rw (from_next b p h, t)

-- ---- a scan that stopped
stopped : (f : Fault) (b : List ℕ) (k m : Rest) → after (Err f) b k ≡ after (Err f) b m
unfolding after
stopped (Wrong p) b k m = refl
stopped Short b k m = refl

-- ---- parts
module _ {A B : Type 0} (part : (A → Rest) → Rest) (follows : A → (B → Rest) → Rest) {first : A} {e : ℕ} {b : List ℕ} {p : ℕ} where
  -- where the first part stops, so does the whole
  pub took_else : (value : B) (end : ℕ) (f : Fault) → Took part first e b p (Err f) → Took (λ k. part (λ x. follows x k)) value end b p (Err f)
  took_else value end f t = record { goes = λ k. t.goes (λ x. follows x k) ∙ stopped f b (follows first k) (k value); place = tt }

  -- what follows is taken where the first part ends
  pub took_then : {value : B} {end : ℕ} (q : ℕ) → Took part first e b p (Ok q) → (r : Scanned) → Took (follows first) value end b q r → Took (λ k. part (λ x. follows x k)) value end b p r
  unfolding after
  took_then q t r u = record { goes = λ k. t.goes (λ x. follows x k) ∙ u.goes k; place = u.place }

-- what `?` hands on is the fault that it was given
pub handed : {r : Scanned} {f : Fault} → IsErr r × IsErrAnd r (λ (y : Fault). y ≡ f) → r ≡ Err f
handed {r} h = let e = err_from_is_err_and r h.1 in e.1 ∙ ap Err e.2

-- nothing is taken
pub took_none : {A : Type 0} {value : A} {end : ℕ} (b : List ℕ) (p : ℕ) → p ≡ end → p ≤ length b → Took (λ (k : A → Rest). k value) value end b p (Ok p)
unfolding after
took_none b p e h = record { goes = λ k. refl; place = (e, h) }

-- a value made of another
pub took_map : {A B : Type 0} (part : (A → Rest) → Rest) (f : A → B) {value : A} {end : ℕ} {b : List ℕ} {p : ℕ} {r : Scanned} → Took part value end b p r → Took (λ k. part (λ x. k (f x))) (f value) end b p r
took_map part f t = record { goes = λ k. t.goes (λ x. k (f x)); place = t.place }

-- certain words, and the value of a part that they end
pub took_these : {A : Type 0} (ws : List ℕ) (value : A) {end : ℕ} {b : List ℕ} {p : ℕ} {r : Scanned} → Took (these ws) tt end b p r → Took (λ (k : A → Rest). exactly ws (k value)) value end b p r
took_these ws value t = record { goes = λ k. t.goes (λ _. k value); place = t.place }

-- an end said in other words
pub took_end : {A : Type 0} {part : (A → Rest) → Rest} {value : A} {end other : ℕ} {b : List ℕ} {p : ℕ} {r : Scanned} → end ≡ other → Took part value end b p r → Took part value other b p r
took_end {part} {value} {b} {p} {r} e t = subst (λ (x : ℕ). Took part value x b p r) e t

-- ---- a part that begins with one word
module _ {B : Type 0} (test : ℕ → Bool) (follows : ℕ → (B → Rest) → Rest) {value : B} {end : ℕ} (b : List ℕ) (p : ℕ) where
  pub one-short : length b < p + 2 → Took (λ k. next test (λ w. follows w k)) value end b p (Err Short)
  unfolding after
  one-short h = record { goes = λ k. next-short b p test (λ w. follows w k) h; place = tt }

  pub one-wrong : p + 2 ≤ length b → test (word_at b p) ≡ false → Took (λ k. next test (λ w. follows w k)) value end b p (Err (Wrong p))
  unfolding after
  one-wrong h t = record { goes = λ k. next-wrong b p test (λ w. follows w k) h t; place = tt }

  pub one_right : p + 2 ≤ length b → test (word_at b p) ≡ true → (r : Scanned) → Took (follows (word_at b p)) value end b (p + 2) r → Took (λ k. next test (λ w. follows w k)) value end b p r
  one_right h t r u = record { goes = λ k. next-right b p test (λ w. follows w k) h t ∙ u.goes k; place = u.place }

-- what a part further on is answered, the whole is answered: a loop's turn goes from one part to the next
abbrev pub Leads : {A B : Type 0} → ((A → Rest) → Rest) → A → ℕ → List ℕ → ℕ → ((B → Rest) → Rest) → B → ℕ → Type 0
Leads whole value end b p part v q = (r : Scanned) → Took part v end b q r → Took whole value end b p r
