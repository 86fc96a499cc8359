-- Laws on the numbers and columns of a body, over the width.
-- Assumes nothing.
use Prim.Native.Nat.{ℕ, zero, suc, ◌+◌, ◌-◌, ◌*◌, ◌≤◌, ◌<◌}
use mathlib.Core.Bool.{Bool, true, false, cond, ◌&&◌, false≢true, and-eq-true_iff}
use mathlib.Core.List.{List, [], ◌∷◌, ◌++◌, map, append-nil}
use mathlib.Core.Path.{◌≡◌, refl, sym, ap, ◌∙◌}
use native.Mathlib.Nat.{add-zero, zero-add, add-sub_cancel_left, mul-le-mul, suc-mul}
use native.Mathlib.Numerals.{add-one}
use native.Mathlib.Omega.{arith}
use lib.Dec.{leb, eqb}
use lib.ListN.{length, get_or, set, take, drop}
use lib.Seq.{drop-cons, take-suc, take-suc-set, append_snoc, take-length, take-append_seam}
use borrow.Author.Tests.{le-leb, eq-eqb, leb-true, eqb-true}
use Rattle.std.proofs.lemmas.List.{map-id}
use Rattle.columns.specs.declared.Span.{Span}
use Rattle.columns.specs.Form.{number_at, elements, lost, fits, span, span_at, Taken, Took, taken_at, column_at}

-- The bytes of so many elements, of which four bytes and one say the number and the width, are few.
pub bytes-few : (n w : ℕ) → n ≤ 4294967295 → w ≤ 255 → n * w ≤ 1095216660225
bytes-few n w h k = mul-le-mul {n₁ = n} {m₁ = w} {n₂ = 4294967295} {m₂ = 255} h k

-- What it is for a column to stand at the cursor.
pub record Fits (body : List ℕ) (w most at : ℕ) : Type 0 where
  pub head : at + 5 ≤ length body
  pub width : get_or body (at + 4) 0 ≡ w
  pub inside : at + 5 + number_at body 4 at * w ≤ length body
  pub few : number_at body 4 at ≤ most

-- Four tests of which one fails.
some_fails : (a b c d : Bool) → (a ≡ true → b ≡ true → c ≡ true → d ≡ true → ⊥) → (a && (b && (c && d))) ≡ false
some_fails false b c d off = refl
some_fails true false c d off = refl
some_fails true true false d off = refl
some_fails true true true false off = refl
some_fails true true true true off = absurd (off refl refl refl refl)

-- A column's three tests behind its head, as code makes them: its width x is w, its b bytes lie in the r that are left, and its n elements
-- are at most m.
module _ (x w b r n m : ℕ) where
  pub tests_hold : (eqb x w && (leb b r && leb n m)) ≡ true → (x ≡ w) × (b ≤ r) × (n ≤ m)
  tests_hold e =
      let p = (and-eq-true_iff (eqb x w) (leb b r && leb n m)).0 e in
      let q = (and-eq-true_iff (leb b r) (leb n m)).0 p.1 in
      (eqb-true x w p.0, leb-true b r q.0, leb-true n m q.1)

  pub tests_fail : (eqb x w && (leb b r && leb n m)) ≡ false → x ≡ w → b ≤ r → n ≤ m → ⊥
  tests_fail e p q s = false≢true (sym e ∙ simp (eq-eqb x w p, le-leb b r q, le-leb n m s))

module _ (body : List ℕ) (w most at : ℕ) where
  fits_true : Fits body w most at → fits body w most at ≡ true
  unfolding fits
  fits_true f = simp (le-leb _ _ f.head, eq-eqb _ _ f.width, le-leb _ _ f.inside, le-leb _ _ f.few)

  fits_false : (Fits body w most at → ⊥) → fits body w most at ≡ false
  unfolding fits
  fits_false off =
      some_fails _ _ _ _
      (λ h e i f. off (record { head = leb-true _ _ h; width = eqb-true _ _ e; inside = leb-true _ _ i; few = leb-true _ _ f }))

  -- Where no column stands at the cursor, it is lost.
  pub span_none : (Fits body w most at → ⊥) → span 0 0 lost ≡ span_at body w most at
  unfolding span_at
  span_none off = rw (fits_false off)

  -- Where one does, it lies behind its head.
  pub span-whole :
      {count : ℕ} → count ≡ number_at body 4 at → get_or body (at + 4) 0 ≡ w → at + 5 + count * w ≤ length body → count ≤ most
      → span (at + 5) count (at + 5 + count * w) ≡ span_at body w most at
  unfolding span_at
  span-whole e width inside few =
      rw (fits_true (record { head = omega arith; width = width; inside = rw (← e) inside; few = omega arith }), ← e)

-- The elements are as many as are asked for.
pub length-elements : (body : List ℕ) (w from n : ℕ) → length (elements body w from n) ≡ n
unfolding elements
length-elements body w from zero = refl
length-elements body w from (suc n) = ap suc (length-elements body w (from + w) n)

-- A column that was looked for: its elements lie in the body, are not too many, and are what is taken at the cursor.
pub record Found (body : List ℕ) (w most at : ℕ) (s : Span) : Type 0 where
  pub inside : s.from + s.count * w ≤ length body
  pub few : s.count ≤ most
  pub is : taken_at body w s ≡ column_at body w most at

pub found : (body : List ℕ) (w most at : ℕ) (s : Span) → s ≡ span_at body w most at → Found body w most at s
unfolding span_at fits column_at
found body w most at s e = go (fits body w most at) refl e
  where
    go :
        (t : Bool) → fits body w most at ≡ t
        → s ≡ cond t (span (at + 5) (number_at body 4 at) (at + 5 + number_at body 4 at * w)) (span 0 0 lost) → Found body w most at s
    go true f q =
        let n = number_at body 4 at in
        let h = tests_hold (get_or body (at + 4) 0) w (at + 5 + n * w) (length body) n most ((and-eq-true_iff (leb (at + 5) (length body)) _).0 f).1 in
        record { inside = rw q h.1; few = rw q h.2; is = ap (taken_at body w) e }
    go false f q = record { inside = rw q (omega arith); few = rw q (omega arith); is = ap (taken_at body w) e }

-- What is taken has at most so many elements as it may.
pub taken_few : (body : List ℕ) (w most at : ℕ) (l : List ℕ) (next : ℕ) → Took l next ≡ column_at body w most at → length l ≤ most
unfolding column_at
taken_few body w most at l next e =
    let s = span_at body w most at in
    let same : l ≡ elements body w s.from s.count = cc in
    omega (arith, ap length same, length-elements body w s.from s.count, (found body w most at s refl).few)

-- The start of a list that was copied into, as long as what was copied.
pub copied_front : (src dst : List ℕ) (n : ℕ) → n ≡ length src → take n (take (length src) src ++ drop (length src) dst) ≡ src
copied_front src dst n e = rw (e, take-length) (take-append_seam src (drop (length src) dst))

-- A lost cursor stays lost: no body is so long.
pub lost_stays : (body : List ℕ) (w most : ℕ) → length body ≤ lost → column_at body w most lost ≡ Took [] lost
unfolding column_at span_at elements
lost_stays body w most h = rw (fits_false body w most lost (λ f. omega (arith, f.head)))

-- A column of n elements from a place on, of which the first i are those of l, and the others lie from k on. Reading has for l the
-- column that is filled, comparing the one that is held against it.
pub record Passed (body : List ℕ) (w n from : ℕ) (l : List ℕ) (k i : ℕ) : Type 0 where
  pub left : ℕ
  pub counted : n ≡ i + left
  pub inside : k + left * w ≤ length body
  pub so : elements body w from n ≡ take i l ++ elements body w k left

module _ {body : List ℕ} {w n from : ℕ} where
  -- Before the first.
  pub passed_none : {l : List ℕ} → from + n * w ≤ length body → Passed body w n from l from 0
  passed_none h = record { left = n; counted = omega arith; inside = h; so = refl }

  -- One more is passed, where it is the next of a list that begins as l does.
  pub passed-more : {l m : List ℕ} {k i x : ℕ} → i < n → x ≡ number_at body w k → take (i + 1) m ≡ take i l ++ (x ∷ [])
      → Passed body w n from l k i → Passed body w n from m (k + w) (i + 1)
  unfolding elements
  passed-more {l} {m} {k} {i} h e t p = go p.left p.counted p.inside p.so
    where
      go : (left : ℕ) → n ≡ i + left → k + left * w ≤ length body
          → elements body w from n ≡ take i l ++ elements body w k left → Passed body w n from m (k + w) (i + 1)
      go zero c f s = absurd (omega arith)
      go (suc r) c f s = record {
        left = r;
        counted = omega arith;
        inside = omega (arith, suc-mul r w);
        so = rw (t, append_snoc, e) s;
      }

  -- One more is read: it is stored.
  pub passed-stored : {l : List ℕ} {k i x : ℕ} → i < n → i < length l → x ≡ number_at body w k
      → Passed body w n from l k i → Passed body w n from (set l i x) (k + w) (i + 1)
  passed-stored {l} {i = i} {x = x} h b e p = passed-more h e (rw add-one (take-suc-set l i x b)) p

  -- One more is compared: it is the same.
  pub passed_equal : {l : List ℕ} {k i x : ℕ} → i < n → i < length l → x ≡ number_at body w k → x ≡ get_or l i 0
      → Passed body w n from l k i → Passed body w n from l (k + w) (i + 1)
  passed_equal {l} {i = i} h b e q p = passed-more h e (rw (add-one, q) (take-suc l i 0 b)) p

  -- All are passed.
  pub passed-all : {l : List ℕ} {k i : ℕ} → n ≤ i → Passed body w n from l k i → elements body w from n ≡ take n l
  unfolding elements
  passed-all {l} {k} {i} h p = go p.left p.counted p.so
    where
      go : (left : ℕ) → n ≡ i + left → elements body w from n ≡ take i l ++ elements body w k left → elements body w from n ≡ take n l
      go zero c s = let e : n ≡ i = omega arith in s ∙ rw (append-nil, e)
      go (suc r) c s = absurd (omega arith)

  -- And it is as long as it must be.
  pub passed_length : {l : List ℕ} {k i : ℕ} → n ≤ i → Passed body w n from l k i → n ≡ length (take n l)
  passed_length h p = sym (length-elements body w from n) ∙ ap length (passed-all h p)

-- All are read: the start of l is what is taken.
pub passed_taken :
    {body : List ℕ} {w most at : ℕ} {s : Span} {l : List ℕ} {k i : ℕ} → Found body w most at s → s.count ≤ i
    → Passed body w s.count s.from l k i → Took (take s.count l) s.next ≡ column_at body w most at
passed_taken f h p = rw (← passed-all h p) f.is

-- One byte is its number.
pub byte_is : (bytes : List ℕ) (at : ℕ) → number_at bytes 1 at ≡ get_or bytes at 0
unfolding number_at
byte_is bytes at = rw (add-zero, zero-add)

-- The bytes of a body are its elements of width 1.
pub bytes_are : (body : List ℕ) (from n : ℕ) → from + n ≤ length body
    → take (from + n - from) (drop from body) ≡ elements body 1 from n
unfolding elements
bytes_are body from n h = rw (add-sub_cancel_left from n) (go n from h)
  where
    go : (n from : ℕ) → from + n ≤ length body → take n (drop from body) ≡ elements body 1 from n
    go zero from h = refl
    go (suc n) from h =
        rw (drop-cons body from 0 (omega arith), byte_is body from, add-one from)
        (ap (λ (l : List ℕ). get_or body from 0 ∷ l) (go n (suc from) (omega arith)))

-- The numbers of an unsigned kind are its elements themselves: what `take` says of them.
pub plain : {l : List ℕ} {n : ℕ} {t : Taken} → Took (map (λ (x : ℕ). x) l) n ≡ t → Took l n ≡ t
plain e = rw map-id at e

-- The statement of taking allows one answer and one cursor.
pub taken_once : {t : Taken} {l m : List ℕ} {n k : ℕ} → Took l n ≡ t → Took m k ≡ t → (l ≡ m) × (n ≡ k)
taken_once p q = (cc, cc)
