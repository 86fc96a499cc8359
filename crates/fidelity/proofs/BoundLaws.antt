-- Ligature lookups of one set (`one-set-fits`) and of sets of one rule each (`lone_rules_fit`): when they fit, over the number of components; and with 2 and 3 of them, from which number of rules on they do not (`one-set-most`, `lone_rules_most`).
-- Assumes nothing.
use mathlib.Core.Path.{◌≡◌, refl, sym, ◌∙◌}
use mathlib.Core.Bool.{◌&&◌}
use mathlib.Core.Logic.{◌⊎◌, inl, inr}
use mathlib.Core.List.{List, [], ◌∷◌}
use Prim.Native.Nat.{ℕ, suc, ◌+◌, ◌*◌, ◌<◌, ◌≤◌}
use native.Mathlib.Nat.{zero-add, mul-le-mul_right}
use native.Mathlib.Omega.{arith}
use borrow.Author.Tests.{lt-ltb, le-leb, leb-true, ltb-true}
use lib.Dec.{ltb, leb}
use lib.ListN.{length}
use Rattle.laws.proofs.TestLaws.{and_true, same_truth}
use Rattle.layouts.specs.Tables.{Rule, sets, ligature}
use Rattle.layouts.specs.Lookups.{fits}
use Rattle.layouts.specs.Extents.{longest, last_from}
use Rattle.layouts.proofs.FitLaws.{ltb-same}
use Rattle.layouts.proofs.SetLaws.{Grouped, grouped}
use Rattle.layouts.proofs.SizeLaws.{rules_in, rules_in-sets}
use Rattle.layouts.proofs.LimitLaws.{Regular, ligature-fits}
use Rattle.fidelity.specs.Writing.{most_in_set, most_alone}

-- a test of one number is that of another that is at most its limit where the first is below its own
most-of : (a m c k : ℕ) → (a < m → c ≤ k) → (c ≤ k → a < m) → ltb a m ≡ leb c k
most-of a m c k on back = same_truth (ltb a m) (leb c k) (λ e. le-leb c k (on (ltb-true a m e))) (λ e. lt-ltb a m (back (leb-true c k e)))

-- ---- one set
alone : (gs : List (List Rule)) → length gs ≡ 1 → (longest gs ≡ rules_in gs) × (last_from 0 0 gs ≡ 0)
unfolding longest last_from
alone [] e = absurd (omega arith)
alone (g ∷ []) e = (omega arith, refl)
alone (g ∷ h ∷ gs) e = absurd (omega arith)

-- ---- sets of one rule each
no_fewer : (n : ℕ) (gs : List (List Rule)) → Grouped n gs → length gs ≤ rules_in gs
unfolding Grouped
no_fewer n [] k = omega arith
no_fewer n (g ∷ gs) k = omega (arith, k.0, no_fewer n gs k.2)

lone_longest : (n : ℕ) (gs : List (List Rule)) → Grouped n gs → rules_in gs ≡ length gs → longest gs ≤ 1
unfolding Grouped longest
lone_longest n [] k e = omega arith
lone_longest n (g ∷ gs) k e =
    let m = no_fewer n gs k.2 in
    omega (arith, m, lone_longest n gs k.2 (omega (arith, k.0, m, e)), k.0, e)

lone_last : (n before i : ℕ) (g : List Rule) (gs : List (List Rule)) → Grouped n (g ∷ gs) → rules_in (g ∷ gs) ≡ length (g ∷ gs) → last_from before i (g ∷ gs) ≡ i + length gs
unfolding Grouped last_from
lone_last n before i g [] k e = omega arith
lone_last n before i g (h ∷ gs) k e =
    let m = no_fewer n (h ∷ gs) k.2 in
    let one : length g ≡ 1 = omega (arith, k.0, m, e) in
    lone_last n i (i + length g) h gs k.2 (omega (arith, e, one)) ∙ omega (arith, one)

-- ---- when they fit
module _ (flags n : ℕ) (rs : List Rule) (low : 0 < n) (f : flags < 65536) (g : Regular n rs) where
  abbrev size : ℕ
  size = 4 + 2 * n

  pub one-set-fits : length (sets rs) ≡ 1 → fits (ligature flags n rs) ≡ ltb (length rs * size) (65536 + 2 * n)
  one-set-fits e =
      let a = alone (sets rs) e in
      ligature-fits flags n rs low f g ∙ rw (e, a.1, a.0, rules_in-sets rs, lt-ltb (8 + 6 * 1 + 0 * size) 65536 (omega arith))

  pub lone_rules_fit : length (sets rs) ≡ length rs → fits (ligature flags n rs) ≡ ltb (length rs * (10 + 2 * n)) (65532 + 2 * n)
  unfolding last_from
  lone_rules_fit e =
      ligature-fits flags n rs low f g
      ∙ go (sets rs) (length rs) (sym e) (lone_longest n (sets rs) k (rules_in-sets rs ∙ sym e)) k (rules_in-sets rs ∙ sym e)
    where
      k : Grouped n (sets rs)
      k = grouped n rs g.wide

      go :
          (gs : List (List Rule)) (c : ℕ) → c ≡ length gs → longest gs ≤ 1 → Grouped n gs → rules_in gs ≡ length gs
          → (ltb (8 + 6 * length gs + last_from 0 0 gs * size) 65536 && ltb (longest gs * size) (65536 + 2 * n)) ≡ ltb (c * (10 + 2 * n)) (65532 + 2 * n)
      go gs c z h k e =
          let short : longest gs * size ≤ 1 * size = mul-le-mul_right size h in
          rw (lt-ltb (longest gs * size) (65536 + 2 * n) (omega (arith, short)), z) (and_true _ ∙ last gs k e)
        where
          on : (m : ℕ) → 8 + 6 * suc m + m * size < 65536 → suc m * (10 + 2 * n) < 65532 + 2 * n
          on m h = omega arith

          back : (m : ℕ) → suc m * (10 + 2 * n) < 65532 + 2 * n → 8 + 6 * suc m + m * size < 65536
          back m h = omega arith

          last :
              (gs : List (List Rule)) → Grouped n gs → rules_in gs ≡ length gs
              → ltb (8 + 6 * length gs + last_from 0 0 gs * size) 65536 ≡ ltb (length gs * (10 + 2 * n)) (65532 + 2 * n)
          last [] k e = lt-ltb (8 + 6 * 0 + 0 * size) 65536 (omega arith) ∙ sym (lt-ltb (0 * (10 + 2 * n)) (65532 + 2 * n) (omega arith))
          last (g ∷ gs) k e =
              rw (lone_last n 0 0 g gs k e, zero-add (length gs))
              (ltb-same (8 + 6 * suc (length gs) + length gs * size) 65536 (suc (length gs) * (10 + 2 * n)) (65532 + 2 * n) (on (length gs)) (back (length gs)))

-- ---- the limits
pub one-set-most : (n c : ℕ) → (n ≡ 2) ⊎ (n ≡ 3) → ltb (c * (4 + 2 * n)) (65536 + 2 * n) ≡ leb c (most_in_set n)
one-set-most n c (inl e) = rw e (most-of (c * 8) 65540 c (most_in_set 2) (λ h. omega arith) (λ h. omega arith))
one-set-most n c (inr e) = rw e (most-of (c * 10) 65542 c (most_in_set 3) (λ h. omega arith) (λ h. omega arith))

pub lone_rules_most : (n c : ℕ) → (n ≡ 2) ⊎ (n ≡ 3) → ltb (c * (10 + 2 * n)) (65532 + 2 * n) ≡ leb c (most_alone n)
lone_rules_most n c (inl e) = rw e (most-of (c * 14) 65536 c (most_alone 2) (λ h. omega arith) (λ h. omega arith))
lone_rules_most n c (inr e) = rw e (most-of (c * 16) 65538 c (most_alone 3) (λ h. omega arith) (λ h. omega arith))
