-- The records that the promises of replacing name are those that the laws of replacing call touched (`touches_named`, `named_touches`), they stand in the line (`named-inside`), and the letter at the place itself does not count for them (`named-own`).
-- Assumes nothing.
use mathlib.Core.Path.{◌≡◌, refl, sym, subst, ◌∙◌}
use mathlib.Core.Bool.{Bool, true, false, and-eq-true_iff, false≢true}
use mathlib.Core.List.{List}
use mathlib.Core.Logic.{◌⊎◌, inl, inr, ⊎_elim, by_cases}
use Prim.Native.Nat.{ℕ, ◌<◌, ◌≤◌}
use native.Mathlib.Nat.{eq-or-lt_of_le}
use native.Mathlib.Decide.{dec_lt}
use native.Mathlib.Omega.{arith}
use lib.ListN.{length, get_or, get_or-eq_default}
use Rattle.selectors.specs.Selectors.{selector}
use Rattle.selectors.proofs.RunLaws.{marked}
use Rattle.shapes.proofs.PlaceLaws.{Beside}
use Rattle.replacing.proofs.LocalLaws.{Touches, touches_own}
use Rattle.demands.specs.Replacing.{Near, itself, before, behind, Named, near, run}

beside-near : (ts : List ℕ) (p k : ℕ) → k < length ts → (k ≡ p) ⊎ Beside ts p k → Near ts p k
beside-near ts p k g (inl e) = subst (λ (i : ℕ). Near ts p i) (sym e) itself
beside-near ts p k g (inr w) =
    by_cases (dec_lt k p)
    (λ l. before (record { earlier = l; letter = w.letter; between = w.before }))
    (λ n.
    by_cases (dec_lt p k)
    (λ l. behind (record { later = l; inside = g; letter = w.letter; between = w.behind }))
    (λ m. subst (λ (i : ℕ). Near ts p i) (omega (arith, n, m)) itself))

near-beside : (ts : List ℕ) (p : ℕ) {k : ℕ} → Near ts p k → (k ≡ p) ⊎ Beside ts p k
near-beside ts p itself = inl refl
near-beside ts p (before n) =
    inr (record { letter = n.letter; before = n.between; behind = λ i l h. absurd (omega (arith, n.earlier)) })
near-beside ts p (behind n) =
    inr (record { letter = n.letter; before = λ i l h. absurd (omega (arith, n.later)); behind = n.between })

module _ (mongolian : Bool) (codes ts : List ℕ) (p : ℕ) where
  pub touches_named : (j : ℕ) → j < length ts → Touches (marked mongolian codes) ts p j → Named mongolian codes ts p j
  touches_named j on t =
      let k = t.root in
      let n = beside-near ts p k (omega (arith, t.reaches.forward)) t.near in
      let split : (i : ℕ) → k < i → i ≤ j → (mongolian ≡ true) × (selector (get_or codes i 0) ≡ true) =
      λ i l h. (and-eq-true_iff mongolian (selector (get_or codes i 0))).0 (t.reaches.all i l h)
      in
      ⊎_elim
      (λ e. near (subst (λ (i : ℕ). Near ts p i) e n))
      (λ l. run (split j l (omega arith)).0 n (record { later = l; selectors = λ i m h. (split i m h).1 }))
      (eq-or-lt_of_le t.reaches.forward)

  pub named_touches : {j : ℕ} → Named mongolian codes ts p j → Touches (marked mongolian codes) ts p j
  named_touches {j} (near n) = record { root = j; near = near-beside ts p n; reaches = record { forward = omega arith; all = λ i l h. absurd (omega arith) } }
  named_touches (run {k = k} e n b) =
      record { root = k; near = near-beside ts p n; reaches = record { forward = omega (arith, b.later); all = λ i l h. simp (e, b.selectors i l h) } }

  -- past the end there is no letter, and no selector
  pub named-inside : length codes ≡ length ts → p < length ts → {j : ℕ} → Named mongolian codes ts p j → j < length ts
  named-inside even on (near itself) = on
  named-inside even on (near (before n)) = omega (arith, n.earlier)
  named-inside even on (near (behind n)) = n.inside
  named-inside even on {j} (run e n b) = by_cases (dec_lt j (length codes)) (λ h. omega (arith, even, h)) (λ n. absurd (false≢true (sym (past n) ∙ b.selectors j b.later (omega arith))))
    where
      past : (j < length codes → ⊥) → selector (get_or codes j 0) ≡ false
      past n = rw (get_or-eq_default codes 0 {n = j} (omega (arith, n))) refl

-- two lines that differ at p alone name the same records from there
pub named-own :
    (mongolian : Bool) (codes codes' ts us : List ℕ) (p : ℕ) → length codes ≡ length ts → length us ≡ length ts → p < length ts
    → ((i : ℕ) → (i ≡ p → ⊥) → get_or us i 0 ≡ get_or ts i 0) → ((i : ℕ) → (i ≡ p → ⊥) → marked mongolian codes' i ≡ marked mongolian codes i)
    → {j : ℕ} → Named mongolian codes ts p j → Named mongolian codes' us p j
named-own mongolian codes codes' ts us p even long on same alike {j} n =
    touches_named mongolian codes' us p j (omega (arith, named-inside mongolian codes ts p even on n, long))
    (touches_own ts us (marked mongolian codes) (marked mongolian codes') p same alike j (named_touches mongolian codes ts p n))
