-- Laws on lists that are the same, and on columns that are compared, over the width.
-- Assumes nothing.
use Prim.Native.Nat.{ℕ, zero, suc, ◌+◌, ◌≤◌, ◌<◌}
use mathlib.Core.Bool.{Bool, true, false, ◌&&◌, false≢true}
use mathlib.Core.List.{List, [], ◌∷◌, ◌++◌}
use mathlib.Core.Path.{◌≡◌, refl, sym, ap, ap₂, ◌∙◌}
use native.Mathlib.Omega.{arith}
use lib.Dec.{eqb}
use lib.ListN.{length, get_or, take}
use lib.Seq.{get_or_at, length-take-le, take-length}
use borrow.Author.Tests.{eq-eqb, eqb-true}
use Rattle.columns.specs.declared.Span.{Span}
use Rattle.columns.specs.Form.{number_at, elements, column_at}
use Rattle.columns.proofs.FormLaws.{Found, Passed, passed-all}
use Rattle.cases.specs.Comparing.{same, Compared, Compare, against}

-- A list is the same as itself.
pub same_refl : (l : List ℕ) → same l l ≡ true
unfolding same
same_refl [] = refl
same_refl (x ∷ l) = rw (eq-eqb x x refl, same_refl l)

-- Lists that are the same are equal.
pub same_true : (l m : List ℕ) → same l m ≡ true → l ≡ m
unfolding same
same_true [] [] e = refl
same_true [] (y ∷ m) e = absurd (false≢true e)
same_true (x ∷ l) [] e = absurd (false≢true e)
same_true (x ∷ l) (y ∷ m) e = go (eqb x y) refl e (λ d. same_true l m d)
  where
    go : (t : Bool) → eqb x y ≡ t → (t && same l m) ≡ true → (same l m ≡ true → l ≡ m) → x ∷ l ≡ y ∷ m
    go true h e rest = ap₂ (λ (a : ℕ) (r : List ℕ). a ∷ r) (eqb-true x y h) (rest e)
    go false h e rest = absurd (false≢true e)

-- Lists that are not equal are not the same.
pub same_false : (l m : List ℕ) → (l ≡ m → ⊥) → same l m ≡ false
same_false l m off = go (same l m) refl
  where
    go : (t : Bool) → same l m ≡ t → t ≡ false
    go true e = absurd (off (same_true l m e))
    go false e = refl

-- A test that holds exactly of equal lists says whether they are the same.
pub same-told : (l m : List ℕ) (r : Bool) → (r ≡ true → l ≡ m) × (l ≡ m → r ≡ true) → r ≡ same l m
same-told l m true p = sym (rw (p.0 refl) (same_refl m))
same-told l m false p = sym (same_false l m (λ e. false≢true (p.1 e)))

module _ {body : List ℕ} {w n from : ℕ} where
  -- All are compared: the column is l.
  pub passed-same : {l : List ℕ} {k i : ℕ} → n ≡ length l → n ≤ i
      → Passed body w n from l k i → same (elements body w from n) l ≡ true
  passed-same {l} e h p = rw (passed-all h p, e, take-length) (same_refl l)

  -- The next is another than that of l.
  pub passed-off : {l : List ℕ} {k i x : ℕ} → i < n → i < length l → x ≡ number_at body w k → (x ≡ get_or l i 0 → ⊥)
      → Passed body w n from l k i → same (elements body w from n) l ≡ false
  unfolding elements
  passed-off {l} {k} {i} h b e off p = go p.left p.counted p.so
    where
      go : (left : ℕ) → n ≡ i + left → elements body w from n ≡ take i l ++ elements body w k left
          → same (elements body w from n) l ≡ false
      go zero c s = absurd (omega arith)
      go (suc r) c s =
          same_false _ _
          (λ q. off (e ∙ sym (get_or_at (take i l) _ _ 0 i (length-take-le i l (omega arith))) ∙ ap (λ (z : List ℕ). get_or z i 0) (sym s ∙ q)))

-- What was found, held against a list.
pub found-compared : {body : List ℕ} {w most at : ℕ} {s : Span} {t : Bool} (l : List ℕ) → Found body w most at s
    → same (elements body w s.from s.count) l ≡ t → Compare t s.next ≡ against l (column_at body w most at)
found-compared l f e = rw (← f.is, e)

-- Lists of other lengths are not the same.
pub same_count : (l m : List ℕ) → (length l ≡ length m → ⊥) → same l m ≡ false
same_count l m off = same_false l m (λ e. off (ap length e))

-- The statement of comparing allows one answer and one cursor.
pub compared-once : {c : Compared} {a b : Bool} {n k : ℕ} → Compare a n ≡ c → Compare b k ≡ c → (a ≡ b) × (n ≡ k)
compared-once p q = (cc, cc)

-- A column of no elements has 0 for its first.
pub first-none : (l : List ℕ) → length l ≡ 0 → 0 ≡ get_or l 0 0
first-none [] e = refl
first-none (x ∷ l) e = absurd (omega arith)
