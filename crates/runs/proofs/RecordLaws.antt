-- A line's records in the order of the work: a list in that order has its length (`length_in_order`), and twice turned it is itself (`order-twice`), as is one of at most one element (`order-none`, `order-one`); the place that comes k-th (`part-fits`, `spot-below`, `get_d_in_order`, `set_in_order`); the records still to come at k
-- (`work-next`, `work-ends`); a list by its places (`get_d_listed`, `map-listed`); the line itself (`length-line`, `line_at`, `column_of`); a part of it (`part_in_order`).
-- Assumes nothing.
use mathlib.Core.Path.{◌≡◌, refl, sym, ap, ◌∙◌}
use mathlib.Core.Bool.{Bool, true, false}
use mathlib.Core.List.{List, [], ◌∷◌, ◌++◌, map, reverse, reverse_aux, reverse-cons, reverse-append, reverse-reverse, append_assoc}
use Prim.Native.Nat.{ℕ, zero, suc, ◌+◌, ◌-◌, ◌<◌, ◌≤◌}
use native.Mathlib.Omega.{arith}
use native.Mathlib.Decide.{dec_lt}
use lib.ListN.{length, get_or, set, take, drop, drop_of_length-le, length-reverse, length-drop, length-map, get_or-append, get_or-map}
use lib.Seq.{slice, get_or-append_seam, set-append_seam, set-append_left, length-slice, take_at, drop_at, ext_get_or}
use Rattle.laws.proofs.PartLaws.{three-parts, slice_mid}
use lib.IntN.{pos}
use Rattle.laws.proofs.LoopLaws.{drop-next}
use Rattle.runs.specs.Records.{Record, Columns, record_at, listed, line_of}
use Rattle.runs.specs.Stretched.{in_order, part_of, work}

abbrev pub blank : Record
blank = record { glyph = 0; width = pos 0; category = 0; ignorable = 0; action = 0; advance = pos 0; offset = pos 0 }

-- ---- the order of the work
pub part-fits : (rtl : Bool) (n k s : ℕ) → k + s ≤ n → part_of rtl n k s + s ≤ n
unfolding part_of
part-fits true n k s h = omega arith
part-fits false n k s h = h

pub spot-below : (rtl : Bool) (n k : ℕ) → k < n → part_of rtl n k 1 < n
spot-below rtl n k h = omega (arith, part-fits rtl n k 1 (omega arith))

module _ {A : Type 0} where
  pub length_in_order : (rtl : Bool) (l : List A) → length (in_order rtl l) ≡ length l
  unfolding in_order
  length_in_order true l = length-reverse l
  length_in_order false l = refl

  pub order-twice : (rtl : Bool) (l : List A) → in_order rtl (in_order rtl l) ≡ l
  unfolding in_order
  order-twice true l = reverse-reverse l
  order-twice false l = refl

  pub order-none : (rtl : Bool) → in_order {A = A} rtl [] ≡ []
  unfolding in_order
  order-none true = refl
  order-none false = refl

  pub order-one : (rtl : Bool) (x : A) → in_order rtl (x ∷ []) ≡ x ∷ []
  unfolding in_order
  order-one true x = refl
  order-one false x = refl

  get_d_reverse : (l : List A) (k : ℕ) (d : A) → k < length l → get_or (reverse l) k d ≡ get_or l (length l - k - 1) d
  get_d_reverse [] k d h = absurd (omega arith)
  get_d_reverse (x ∷ l) k d h = ap (λ (m : List A). get_or m k d) (reverse-cons x l) ∙ at (dec_lt k (length l)) (get_d_reverse l k d)
    where
      at : Dec (k < length l) → (k < length l → get_or (reverse l) k d ≡ get_or l (length l - k - 1) d) → get_or (reverse l ++ (x ∷ [])) k d ≡ get_or (x ∷ l) (suc (length l) - k - 1) d
      at (yes p) ih =
          let e : suc (length l) - k - 1 ≡ suc (length l - k - 1) = omega arith in
          let b : k < length (reverse l) = rw (length-reverse l) p in
          get_or-append (reverse l) (x ∷ []) d k b ∙ ih p ∙ ap (λ (i : ℕ). get_or (x ∷ l) i d) (sym e)
      at (no p) ih =
          let e : suc (length l) - k - 1 ≡ 0 = omega (arith, p) in
          let b : k ≡ length (reverse l) = rw (length-reverse l) (omega (arith, p)) in
          ap (λ (i : ℕ). get_or (reverse l ++ (x ∷ [])) i d) b ∙ get_or-append_seam (reverse l) x [] d ∙ ap (λ (i : ℕ). get_or (x ∷ l) i d) (sym e)

  pub get_d_in_order : (rtl : Bool) (l : List A) (k : ℕ) (d : A) → k < length l → get_or (in_order rtl l) k d ≡ get_or l (part_of rtl (length l) k 1) d
  unfolding in_order part_of
  get_d_in_order true l k d h = get_d_reverse l k d h
  get_d_in_order false l k d h = refl

  set-reverse : (l : List A) (k : ℕ) (v : A) → k < length l → set (reverse l) (length l - k - 1) v ≡ reverse (set l k v)
  set-reverse [] k v h = absurd (omega arith)
  set-reverse (x ∷ l) zero v h =
      let e : suc (length l) - 0 - 1 ≡ length (reverse l) = rw length-reverse (omega arith) in
      rw (e, reverse-cons x l, reverse-cons v l) (set-append_seam (reverse l) x [] v)
  set-reverse (x ∷ l) (suc k) v h =
      let e : suc (length l) - suc k - 1 ≡ length l - k - 1 = omega arith in
      let b : length l - k - 1 < length (reverse l) = rw length-reverse (omega arith) in
      rw (e, reverse-cons x l, reverse-cons x (set l k v)) (set-append_left (reverse l) (x ∷ []) _ v b ∙ ap (λ (m : List A). m ++ (x ∷ [])) (set-reverse l k v (omega arith)))

  pub set_in_order : (rtl : Bool) (l : List A) (k : ℕ) (v : A) → k < length l → set (in_order rtl l) (part_of rtl (length l) k 1) v ≡ in_order rtl (set l k v)
  unfolding in_order part_of
  set_in_order true l k v h = set-reverse l k v h
  set_in_order false l k v h = refl

  -- the s that come from the k-th on, as a part of the list
  pub part_in_order : (rtl : Bool) (l : List A) (k s : ℕ) → k + s ≤ length l → slice (part_of rtl (length l) k s) (part_of rtl (length l) k s + s) l ≡ in_order rtl (take s (drop k (in_order rtl l)))
  unfolding in_order part_of
  part_in_order true l k s h =
      let i : ℕ = length l - k - s in
      let T = take i l in
      let B = slice i (i + s) l in
      let E = drop (i + s) l in
      let parts : l ≡ T ++ (B ++ E) = three-parts l i (i + s) (omega arith) (omega arith) in
      let back : reverse l ≡ reverse E ++ (reverse B ++ reverse T) = ap reverse parts ∙ reverse-append T (B ++ E) ∙ ap (λ (m : List A). m ++ reverse T) (reverse-append B E) ∙ append_assoc (reverse E) (reverse B) (reverse T) in
      let last : length (reverse E) ≡ k = length-reverse E ∙ length-drop (i + s) l ∙ omega arith in
      let middle : length (reverse B) ≡ s = length-reverse B ∙ length-slice i (i + s) l (omega arith) ∙ omega arith in
      sym (ap (λ (m : List A). reverse (take s (drop k m))) back ∙ ap (λ (m : List A). reverse (take s m)) (drop_at (reverse E) (reverse B ++ reverse T) k last) ∙ ap reverse (take_at (reverse B) (reverse T) s middle) ∙ reverse-reverse B)
  part_in_order false l k s h = sym (slice_mid k (k + s) l) ∙ ap (λ (n : ℕ). take n (drop k l)) (let e : k + s - k ≡ s = omega arith in e)

  length-listed : (f : ℕ → A) (n : ℕ) → length (listed f n) ≡ n
  unfolding listed
  length-listed f zero = refl
  length-listed f (suc n) = ap suc (length-listed (λ (k : ℕ). f (suc k)) n)

  pub get_d_listed : (f : ℕ → A) (n i : ℕ) (d : A) → i < n → get_or (listed f n) i d ≡ f i
  unfolding listed
  get_d_listed f zero i d h = absurd (omega arith)
  get_d_listed f (suc n) zero d h = refl
  get_d_listed f (suc n) (suc i) d h = get_d_listed (λ (k : ℕ). f (suc k)) n i d (omega arith)

module _ {A B : Type 0} (f : A → B) where
  map-onto : (l r : List A) → map f (reverse_aux l r) ≡ reverse_aux (map f l) (map f r)
  map-onto [] r = refl
  map-onto (x ∷ l) r = map-onto l (x ∷ r)

  pub map_in_order : (rtl : Bool) (l : List A) → map f (in_order rtl l) ≡ in_order rtl (map f l)
  unfolding in_order
  map_in_order true l = map-onto l []
  map_in_order false l = refl

  pub map-listed : (g : ℕ → A) (n : ℕ) → map f (listed g n) ≡ listed (λ (k : ℕ). f (g k)) n
  unfolding listed
  map-listed g zero = refl
  map-listed g (suc n) = ap (λ (l : List B). f (g 0) ∷ l) (map-listed (λ (k : ℕ). g (suc k)) n)

-- ---- the records of a line
pub length-line : (c : Columns) → length (line_of c) ≡ length c.actions
unfolding line_of
length-line c = length-listed (record_at c) (length c.actions)

pub line_at : (c : Columns) (i : ℕ) → i < length c.actions → get_or (line_of c) i blank ≡ record_at c i
unfolding line_of
line_at c i h = get_d_listed (record_at c) (length c.actions) i blank h

-- a column of the line is the one that it was made of, if that is as long as the actions
pub column_of : {A : Type 0} (f : Record → A) (c : Columns) (column : List A) → length column ≡ length c.actions → ((i : ℕ) → f (record_at c i) ≡ get_or column i (f blank)) → map f (line_of c) ≡ column
column_of f c column e h =
    let n : length (map f (line_of c)) ≡ length c.actions = length-map (line_of c) f ∙ length-line c in
    ext_get_or (f blank) (map f (line_of c)) column (n ∙ sym e)
    (λ i k. get_or-map f (line_of c) i blank ∙ ap f (line_at c i (rw n at k)) ∙ h i)

module _ (rtl : Bool) (c : Columns) where
  pub length-work : length (work rtl c) ≡ length c.actions
  unfolding work
  length-work = length_in_order rtl (line_of c) ∙ length-line c

  pub work-at : (k : ℕ) → k < length c.actions → get_or (work rtl c) k blank ≡ record_at c (part_of rtl (length c.actions) k 1)
  unfolding work
  work-at k h =
      let n = length-line c in
      get_d_in_order rtl (line_of c) k blank (rw n h)
      ∙ ap (λ (m : ℕ). get_or (line_of c) (part_of rtl m k 1) blank) n
      ∙ line_at c (part_of rtl (length c.actions) k 1) (spot-below rtl (length c.actions) k h)

  -- the record that comes k-th, and those that come then
  pub work-next : (k : ℕ) → k < length c.actions → drop k (work rtl c) ≡ record_at c (part_of rtl (length c.actions) k 1) ∷ drop (k + 1) (work rtl c)
  work-next k h = drop-next (work rtl c) k blank (rw length-work h) ∙ ap (λ (r : Record). r ∷ drop (k + 1) (work rtl c)) (work-at k h)

  pub work-ends : (k : ℕ) → length c.actions ≤ k → drop k (work rtl c) ≡ []
  work-ends k h = drop_of_length-le (work rtl c) {i = k} (rw length-work h)
