-- Laws of a column of which some records are renewed: their number, the record at a place, renewing the same records, renewing twice, in either order, one record more.
-- Assumes nothing.
use mathlib.Core.Path.{◌≡◌, refl, sym, ap, ◌∙◌}
use mathlib.Core.Bool.{Bool, true, false, cond, ◌&&◌, ◌||◌, and-false}
use mathlib.Core.List.{List, [], ◌∷◌}
use mathlib.Core.Logic.{by_cases}
use Prim.Native.Nat.{ℕ, zero, suc, ◌+◌, ◌<◌, ◌≤◌}
use native.Mathlib.Nat.{not-suc-le-zero, le_of_suc-le-suc}
use native.Mathlib.Decide.{dec_lt}
use native.Mathlib.Omega.{arith}
use borrow.Author.Tests.{ltb-true, ltb-false, eqb-true, eqb-false, le-leb, lt-leb, lt-ltb, le-ltb}
use lib.Dec.{eqb, leb, ltb}
use lib.ListN.{length, get_or, set, length-set, get_or-eq_default}
use lib.Seq.{get_or-set_same, get_or-set_other, ext_get_or}
use Rattle.renewing.specs.Renewed.{renewed, span}

pub length-renewed : (at : ℕ → Bool) (fresh : ℕ → ℕ) (xs : List ℕ) → length (renewed at fresh xs) ≡ length xs
length-renewed at fresh [] = refl
length-renewed at fresh (x ∷ xs) = ap suc (length-renewed (λ j. at (suc j)) (λ j. fresh (suc j)) xs)

pub renewed-at :
    (at : ℕ → Bool) (fresh : ℕ → ℕ) (xs : List ℕ) (j : ℕ) → j < length xs → get_or (renewed at fresh xs) j 0 ≡ cond (at j) (fresh j) (get_or xs j 0)
renewed-at at fresh [] j h = absurd (not-suc-le-zero h)
renewed-at at fresh (x ∷ xs) zero h = refl
renewed-at at fresh (x ∷ xs) (suc j) h = renewed-at (λ j. at (suc j)) (λ j. fresh (suc j)) xs j (le_of_suc-le-suc h)

-- the same records renewed alike
pub renewed-alike :
    (at also : ℕ → Bool) (fresh other : ℕ → ℕ) (xs : List ℕ) → ((j : ℕ) → j < length xs → at j ≡ also j) → ((j : ℕ) → j < length xs → at j ≡ true → fresh j ≡ other j)
    → renewed at fresh xs ≡ renewed also other xs
renewed-alike at also fresh other [] e f = refl
renewed-alike at also fresh other (x ∷ xs) e f =
    let rest = renewed-alike (λ j. at (suc j)) (λ j. also (suc j)) (λ j. fresh (suc j)) (λ j. other (suc j)) xs (λ j h. e (suc j) (omega arith)) (λ j h. f (suc j) (omega arith)) in
    go (at 0) (also 0) (e 0 (omega arith)) (f 0 (omega arith)) rest
  where
    go :
        (a b : Bool) → a ≡ b → (a ≡ true → fresh 0 ≡ other 0) → {l m : List ℕ} → l ≡ m
        → cond a (fresh 0) x ∷ l ≡ cond b (other 0) x ∷ m
    go true b p q r = rw (← p, q refl, r)
    go false b p q r = rw (← p, r)

-- where none is renewed, the column stays
pub renewed-none : (at : ℕ → Bool) (fresh : ℕ → ℕ) (xs : List ℕ) → ((j : ℕ) → j < length xs → at j ≡ false) → renewed at fresh xs ≡ xs
renewed-none at fresh [] e = refl
renewed-none at fresh (x ∷ xs) e =
    rw (e 0 (omega arith)) (ap (λ (l : List ℕ). x ∷ l) (renewed-none (λ j. at (suc j)) (λ j. fresh (suc j)) xs (λ j h. e (suc j) (omega arith))))

-- some records, then others, are both
pub renewed-twice :
    (at also : ℕ → Bool) (fresh : ℕ → ℕ) (xs : List ℕ) → renewed also fresh (renewed at fresh xs) ≡ renewed (λ j. also j || at j) fresh xs
renewed-twice at also fresh [] = refl
renewed-twice at also fresh (x ∷ xs) = go (at 0) (also 0) (renewed-twice (λ j. at (suc j)) (λ j. also (suc j)) (λ j. fresh (suc j)) xs)
  where
    go : (a b : Bool) → {l m : List ℕ} → l ≡ m → cond b (fresh 0) (cond a (fresh 0) x) ∷ l ≡ cond (b || a) (fresh 0) x ∷ m
    go a true r = rw r
    go a false r = rw r

-- ---- the records of a column that is renewed in part
-- a column that is right wherever it is not renewed is right then
pub renewed-right :
    (at : ℕ → Bool) (xs ys : List ℕ) → length xs ≡ length ys → ((j : ℕ) → j < length xs → at j ≡ false → get_or xs j 0 ≡ get_or ys j 0)
    → renewed at (λ j. get_or ys j 0) xs ≡ ys
renewed-right at xs ys e right =
    let fresh : ℕ → ℕ = λ j. get_or ys j 0 in
    let n = length-renewed at fresh xs in
    ext_get_or 0 (renewed at fresh xs) ys (n ∙ e) (λ j h. let on : j < length xs = omega arith in renewed-at at fresh xs j on ∙ go j (at j) (right j on))
  where
    go : (j : ℕ) (b : Bool) → (b ≡ false → get_or xs j 0 ≡ get_or ys j 0) → cond b (get_or ys j 0) (get_or xs j 0) ≡ get_or ys j 0
    go j true r = refl
    go j false r = r refl

-- a record that is not renewed, and one that is; past the end is neither
pub renewed_else : (at : ℕ → Bool) (fresh : ℕ → ℕ) (xs : List ℕ) (j : ℕ) → (j < length xs → at j ≡ false) → get_or (renewed at fresh xs) j 0 ≡ get_or xs j 0
renewed_else at fresh xs j off = by_cases (dec_lt j (length xs)) on (λ n. past (omega (arith, n)))
  where
    on : j < length xs → get_or (renewed at fresh xs) j 0 ≡ get_or xs j 0
    on h = renewed-at at fresh xs j h ∙ simp (off h)

    past : length xs ≤ j → get_or (renewed at fresh xs) j 0 ≡ get_or xs j 0
    past h = get_or-eq_default (renewed at fresh xs) 0 (omega (arith, length-renewed at fresh xs)) ∙ sym (get_or-eq_default xs 0 h)

pub renewed-there :
    (at : ℕ → Bool) (xs ys : List ℕ) (j : ℕ) → length xs ≡ length ys → (j < length xs → at j ≡ true) → get_or (renewed at (λ i. get_or ys i 0) xs) j 0 ≡ get_or ys j 0
renewed-there at xs ys j e holds = by_cases (dec_lt j (length xs)) on (λ n. past (omega (arith, n)))
  where
    on : j < length xs → get_or (renewed at (λ i. get_or ys i 0) xs) j 0 ≡ get_or ys j 0
    on h = renewed-at at (λ i. get_or ys i 0) xs j h ∙ simp (holds h)

    past : length xs ≤ j → get_or (renewed at (λ i. get_or ys i 0) xs) j 0 ≡ get_or ys j 0
    past h =
        get_or-eq_default (renewed at (λ i. get_or ys i 0) xs) 0 (omega (arith, length-renewed at (λ i. get_or ys i 0) xs)) ∙ sym (get_or-eq_default ys 0 (omega arith))

-- records renewed twice: first where `one` holds, then where `other'` does; or first where `other` holds, then where `one'` does
module _ (one one' other other' : ℕ → Bool) (x y both : ℕ → ℕ) (column : List ℕ) where
  pub renewed-order :
      ((j : ℕ) → j < length column → other' j ≡ false → (one j ≡ one' j) × (x j ≡ both j))
      → ((j : ℕ) → j < length column → one' j ≡ false → (other j ≡ other' j) × (y j ≡ both j))
      → renewed other' both (renewed one x column) ≡ renewed one' both (renewed other y column)
  renewed-order left right =
      let n = length-renewed one x column in
      let m = length-renewed other y column in
      let n' = length-renewed other' both (renewed one x column) in
      let m' = length-renewed one' both (renewed other y column) in
      ext_get_or 0 (renewed other' both (renewed one x column)) (renewed one' both (renewed other y column)) (n' ∙ n ∙ sym (m' ∙ m))
      (λ j h.
      let on : j < length column = omega arith in
      renewed-at other' both (renewed one x column) j (omega arith)
      ∙ ap (cond (other' j) (both j)) (renewed-at one x column j on)
      ∙ go j (one j) (one' j) (other j) (other' j) (left j on) (right j on)
      ∙ sym (renewed-at one' both (renewed other y column) j (omega arith) ∙ ap (cond (one' j) (both j)) (renewed-at other y column j on)))
    where
      go :
          (j : ℕ) (a a' b b' : Bool) → (b' ≡ false → (a ≡ a') × (x j ≡ both j)) → (a' ≡ false → (b ≡ b') × (y j ≡ both j))
          → cond b' (both j) (cond a (x j) (get_or column j 0)) ≡ cond a' (both j) (cond b (y j) (get_or column j 0))
      go j a true b true l r = refl
      go j a false b true l r = let e = r refl in rw (e.0, e.1)
      go j a true b false l r = let e = l refl in rw (e.0, e.1)
      go j a false b false l r = rw ((l refl).0, (r refl).0)

-- ---- a turn of the loop that renews the records from k to before i
span_none : (k j : ℕ) → span k k j ≡ false
span_none k j = go (ltb j k) refl
  where
    go : (b : Bool) → ltb j k ≡ b → span k k j ≡ false
    go true e = simp (lt-leb k j (ltb-true j k e))
    go false e = simp (e, and-false)

span-here : (k i : ℕ) → k ≤ i → span k (i + 1) i ≡ true
span-here k i h = simp (le-leb k i h, lt-ltb i (i + 1) (omega arith))

span-other : (k i j : ℕ) → (j ≡ i → ⊥) → span k (i + 1) j ≡ span k i j
span-other k i j d = ap (λ (b : Bool). leb k j && b) (go (ltb j i) refl)
  where
    go : (b : Bool) → ltb j i ≡ b → ltb j (i + 1) ≡ b
    go true e = lt-ltb j (i + 1) (omega (arith, ltb-true j i e))
    go false e = le-ltb j (i + 1) (omega (arith, ltb-false j i e, d))

module _ (k : ℕ) (fresh : ℕ → ℕ) (xs : List ℕ) where
  pub span_begins : renewed (span k k) fresh xs ≡ xs
  span_begins = renewed-none (span k k) fresh xs (λ j h. span_none k j)

  pub span-next :
      (i v : ℕ) (ys : List ℕ) → k ≤ i → i < length xs → v ≡ fresh i → ys ≡ renewed (span k i) fresh xs → set ys i v ≡ renewed (span k (i + 1)) fresh xs
  span-next i v ys h l e q =
      let done = renewed (span k (i + 1)) fresh xs in
      let n = ap length q ∙ length-renewed (span k i) fresh xs in
      ext_get_or 0 (set ys i v) done (length-set ys i v ∙ n ∙ sym (length-renewed (span k (i + 1)) fresh xs)) (λ j g. go j (omega (arith, length-set ys i v)) (eqb j i) refl)
    where
      go : (j : ℕ) → j < length xs → (b : Bool) → eqb j i ≡ b → get_or (set ys i v) j 0 ≡ get_or (renewed (span k (i + 1)) fresh xs) j 0
      go j g true f =
          rw (eqb-true j i f)
          (get_or-set_same ys i v 0 (omega (arith, ap length q, length-renewed (span k i) fresh xs)) ∙ e ∙ sym (renewed-at (span k (i + 1)) fresh xs i l ∙ simp (span-here k i h)))
      go j g false f =
          let d = eqb-false j i f in
          get_or-set_other ys i j v 0 d ∙ ap (λ (zs : List ℕ). get_or zs j 0) q ∙ renewed-at (span k i) fresh xs j g
          ∙ ap (λ (b : Bool). cond b (fresh j) (get_or xs j 0)) (sym (span-other k i j d))
          ∙ sym (renewed-at (span k (i + 1)) fresh xs j g)

  pub span-ends : (i end : ℕ) (ys : List ℕ) → i ≡ end → ys ≡ renewed (span k i) fresh xs → ys ≡ renewed (span k end) fresh xs
  span-ends i end ys e q = q ∙ ap (λ (n : ℕ). renewed (span k n) fresh xs) e
