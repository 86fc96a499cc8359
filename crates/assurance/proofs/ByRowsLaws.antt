-- Rules and the rows that give them. The font's glyph for a code, by places (`shows_glyph`, `shown`); rules with the numbers of their rows, and their order (`Numbered`, `Before`, `Pairwise`); the rule of a row, by the definition's tests (`tested-gives`, `gives_same`, `gives-tested`); the definition's rules with their rows (`numbered`, `numbered-ruled`), each given by its row (`numbered-given`) and none left out (`numbered-every`), in order (`numbered-ordered`); so its lookup is that of the rows (`of-rows`), and its entries those of lists of rows (`origin_of`, `Long`, `of-lists`): there are some where a list is used (`used-some`), none where none is (`none_used`), and each is of one that is used (`list_at`).
-- Assumes nothing.
use mathlib.Core.Path.{◌≡◌, refl, sym, ap, ap₂, ◌∙◌, subst}
use mathlib.Core.Bool.{Bool, true, false, cond, ◌&&◌, ◌||◌, false≢true}
use mathlib.Core.Logic.{◌⊎◌, inl, inr}
use mathlib.Core.List.{List, [], ◌∷◌, ◌++◌, map, Memᴰ}
use Prim.Native.Nat.{ℕ, zero, suc, ◌+◌, ◌*◌, ◌<◌, ◌≤◌}
use native.Mathlib.Omega.{arith}
use native.Mathlib.Nat.{mul-le-mul_left, mul-zero}
use borrow.Author.Tests.{ne_eqb, eqb-true, eqb-false, lt-ltb, ltb-true, ltb-false, leb-true, leb-false, not-true}
use lib.Dec.{eqb, ltb, leb}
use lib.ListN.{length, get_or, drop, length-map, get_or-map, get_or-eq_default}
use lib.Seq.{get_or-drop, drop-drop, ext_get_or, take_at, drop-append-add}
use Rattle.laws.specs.Lists.{those}
use Rattle.laws.proofs.TestLaws.{both}
use Rattle.layouts.specs.declared.Kind.{Kind}
use Rattle.layouts.specs.declared.Kind.TheVariants.{Single, Ligature}
use Rattle.layouts.specs.Tables.{Rule, first}
use Rattle.layouts.specs.Lookups.{Lookup, width, flat, ligatures, listed, fits}
use Rattle.layouts.proofs.FitLaws.{fits_head, fits-at, fits-lent}
use Rattle.layouts.proofs.SetLaws.{Wide}
use Rattle.fonts.specs.Font.{Font, Sound, glyph_among, glyph_of}
use Rattle.fonts.proofs.FontLaws.{rising_lt, glyph-at}
use Rattle.ordering.specs.Order.{insert, sorted}
use Rattle.ordering.proofs.KeyLaws.{Each, each_at}
use Rattle.ordering.proofs.OrderLaws.{each-sorted, sorted-map}
use Rattle.layouts.proofs.FlatLaws.{length-flat}
use Rattle.synthesis.specs.Rules.{rows, asks, with_glyphs, usable, alters, ruled, in_order}
use Rattle.synthesis.specs.Made.{row_of}
use Rattle.synthesis.proofs.RuledLaws.{ruled_cons}
use Rattle.synthesis.proofs.RowLaws.{length-glyphs, glyph-of}
use Rattle.drafts.specs.Entries.{Entry}
use Rattle.assurance.specs.Origins.{Origin}
use Rattle.assurance.specs.ByRows.{Lent, code_at, form_at, Shows, Gives, Used, rule_at, OfRows, OfLists, end, used, unused}
use Rattle.assurance.proofs.OriginLaws.{made_of, kept}

-- ---- the font's glyph for a code
shows_glyph : (f : Font) → Sound f → (c g : ℕ) → Shows f c g → glyph_of f c ≡ g
shows_glyph f s c g (j, h, e, d, b) =
    glyph-at f.codes f.glyphs c j s.even h e (λ k q z. omega (arith, rising_lt f.codes s.rises k j q h, e, z)) ∙ d

glyph_shows : (cs gs : List ℕ) (c : ℕ) → glyph_among cs gs c < 65536 → (j : ℕ) × (j < length cs) × (get_or cs j 0 ≡ c) × (get_or gs j 0 ≡ glyph_among cs gs c)
unfolding glyph_among
glyph_shows [] gs c h = absurd (omega arith)
glyph_shows (x ∷ cs) [] c h = absurd (omega arith)
glyph_shows (x ∷ cs) (g ∷ gs) c h = go (eqb x c) refl h (glyph_shows cs gs c)
  where
    go :
        (t : Bool) → eqb x c ≡ t → cond t g (glyph_among cs gs c) < 65536
        → (glyph_among cs gs c < 65536 → (j : ℕ) × (j < length cs) × (get_or cs j 0 ≡ c) × (get_or gs j 0 ≡ glyph_among cs gs c))
        → (j : ℕ) × (j < length (x ∷ cs)) × (get_or (x ∷ cs) j 0 ≡ c) × (get_or (g ∷ gs) j 0 ≡ cond t g (glyph_among cs gs c))
    go true e b later = (0, omega arith, eqb-true x c e, refl)
    go false e b later =
        let r = later b in
        (suc r.0, omega (arith, r.1), r.2, r.3)

shown : (f : Font) (c g : ℕ) → g ≡ glyph_of f c → g < 65536 → Shows f c g
shown f c g e b =
    let r = glyph_shows f.codes f.glyphs c (omega (arith, e)) in
    (r.0, r.1, r.2, r.3 ∙ sym e, omega arith)

-- ---- tests
asks-form : (kind : Kind) (row : Rule) → asks kind row ≡ true → kind ≡ Single → row.ligature ≡ 0 → ⊥
asks-form Single row e s = eqb-false row.ligature 0 (not-true (eqb row.ligature 0) e)
asks-form (Ligature n) row e s =
    let z : ◌≡◌ {A = ℕ} 0 1 = cc in
    absurd (omega arith)

form-asks : (kind : Kind) (row : Rule) → (kind ≡ Single → row.ligature ≡ 0 → ⊥) → asks kind row ≡ true
form-asks Single row h = rw (ne_eqb row.ligature 0 (h refl))
form-asks (Ligature n) row h = refl

alters-other : (kind : Kind) (r : Rule) → alters kind r ≡ true → kind ≡ Single → first r ≡ r.ligature → ⊥
alters-other Single r e s = eqb-false (first r) r.ligature (not-true (eqb (first r) r.ligature) e)
alters-other (Ligature n) r e s =
    let z : ◌≡◌ {A = ℕ} 0 1 = cc in
    absurd (omega arith)

other-alters : (kind : Kind) (r : Rule) → (kind ≡ Single → first r ≡ r.ligature → ⊥) → alters kind r ≡ true
other-alters Single r h = rw (ne_eqb (first r) r.ligature (h refl))
other-alters (Ligature n) r h = refl

fits-places : (ws : List ℕ) → ((j : ℕ) → j < length ws → get_or ws j 0 < 65536) → fits ws ≡ true
fits-places ws h = fits-lent ws (λ j. go j (ltb j (length ws)) refl)
  where
    go : (j : ℕ) (t : Bool) → ltb j (length ws) ≡ t → get_or ws j 0 < 65536
    go j true e = h j (ltb-true j (length ws) e)
    go j false e = omega (arith, get_or-eq_default ws 0 {n = j} (ltb-false j (length ws) e))

-- ---- rules with numbers, in order
-- a rule, and the number of its row
record Numbered : Type 0 where
  pub row : ℕ
  pub rule : Rule

abbrev numbered_of : ℕ → Rule → Numbered
numbered_of m r = record { row = m; rule = r }

abbrev rule_of : Numbered → Rule
rule_of t = t.rule

abbrev key_of : Numbered → ℕ
key_of t = first t.rule

each-any : {P : Numbered → Type 0} → ((t : Numbered) → P t) → (l : List Numbered) → Each P l
each-any f [] = tt
each-any f (t ∷ l) = (f t, each-any f l)

-- another row; the smaller first glyph, or else the earlier row
abbrev Before : Numbered → Numbered → Type 0
Before a b = (a.row ≡ b.row → ⊥) × ((key_of a < key_of b) ⊎ ((key_of a ≡ key_of b) × (a.row < b.row)))

abbrev Pairwise : List Numbered → Type 0
Pairwise [] = Unit
Pairwise (a ∷ l) = Each (Before a) l × Pairwise l

not-above : (a b : Numbered) → Before a b → key_of a ≤ key_of b
not-above a b (d, inl h) = omega arith
not-above a b (d, inr h) = omega (arith, h.0)

-- an earlier row, and no larger first glyph
earlier : (a b : Numbered) → a.row < b.row → key_of a ≤ key_of b → Before a b
earlier a b h k = (λ e. omega arith, go (ltb (key_of a) (key_of b)) refl)
  where
    go : (t : Bool) → ltb (key_of a) (key_of b) ≡ t → (key_of a < key_of b) ⊎ ((key_of a ≡ key_of b) × (a.row < b.row))
    go true e = inl (ltb-true (key_of a) (key_of b) e)
    go false e = inr (omega (arith, ltb-false (key_of a) (key_of b) e), h)

each-earlier : (x y : Numbered) (l : List Numbered) → key_of x ≤ key_of y → Each (Before y) l → Each (λ t. x.row < t.row) l → Each (Before x) l
each-earlier x y [] h p q = tt
each-earlier x y (z ∷ l) h p q = (earlier x z q.0 (omega (arith, not-above y z p.0)), each-earlier x y l h p.1 q.1)

each-insert : (P : Numbered → Type 0) (x : Numbered) (l : List Numbered) → P x → Each P l → Each P (insert key_of x l)
each-insert P x [] p q = (p, tt)
each-insert P x (y ∷ l) p q = go (leb (key_of x) (key_of y)) (each-insert P x l p q.1)
  where
    go : (t : Bool) → Each P (insert key_of x l) → Each P (cond t (x ∷ y ∷ l) (y ∷ insert key_of x l))
    go true r = (p, q)
    go false r = (q.0, r)

insert_pairwise : (x : Numbered) (l : List Numbered) → Pairwise l → Each (λ t. x.row < t.row) l → Pairwise (insert key_of x l)
insert_pairwise x [] p q = (tt, tt)
insert_pairwise x (y ∷ l) p q = go (leb (key_of x) (key_of y)) refl (insert_pairwise x l p.1 q.1)
  where
    go : (t : Bool) → leb (key_of x) (key_of y) ≡ t → Pairwise (insert key_of x l) → Pairwise (cond t (x ∷ y ∷ l) (y ∷ insert key_of x l))
    go true e r =
        let h : key_of x ≤ key_of y = leb-true (key_of x) (key_of y) e in
        ((earlier x y q.0 h, each-earlier x y l h p.0 q.1), p)
    go false e r = (each-insert (Before y) x l (λ z. omega (arith, q.0), inl (leb-false (key_of x) (key_of y) e)) p.0, r)

mem_insert : (a x : Numbered) (l : List Numbered) → Memᴰ a (x ∷ l) → Memᴰ a (insert key_of x l)
mem_insert a x [] m = m
mem_insert a x (y ∷ l) m = go (leb (key_of x) (key_of y)) m (mem_insert a x l)
  where
    go : (t : Bool) → Memᴰ a (x ∷ y ∷ l) → (Memᴰ a (x ∷ l) → Memᴰ a (insert key_of x l)) → Memᴰ a (cond t (x ∷ y ∷ l) (y ∷ insert key_of x l))
    go true m r = m
    go false (Memᴰ.head e) r = Memᴰ.tail (r (Memᴰ.head e))
    go false (Memᴰ.tail (Memᴰ.head e)) r = Memᴰ.head e
    go false (Memᴰ.tail (Memᴰ.tail m)) r = Memᴰ.tail (r (Memᴰ.tail m))

mem_sorted : (a : Numbered) (l : List Numbered) → Memᴰ a l → Memᴰ a (sorted key_of l)
unfolding sorted
mem_sorted a [] x' = elim x' [ ]
mem_sorted a (x ∷ l) (Memᴰ.head e) = mem_insert a x (sorted key_of l) (Memᴰ.head e)
mem_sorted a (x ∷ l) (Memᴰ.tail m) = mem_insert a x (sorted key_of l) (Memᴰ.tail (mem_sorted a l m))

-- by places
mem_at : (a d : Numbered) (l : List Numbered) → Memᴰ a l → (p : ℕ) × (p < length l) × (get_or l p d ≡ a)
mem_at a d [] x' = elim x' [ ]
mem_at a d (x ∷ l) (Memᴰ.head e) = (0, omega arith, sym e)
mem_at a d (x ∷ l) (Memᴰ.tail m) =
    let r = mem_at a d l m in
    (suc r.0, omega (arith, r.1), r.2)

pairwise_at : (d : Numbered) (l : List Numbered) → Pairwise l → (p q : ℕ) → p < q → q < length l → Before (get_or l p d) (get_or l q d)
pairwise_at d [] w p q h g = absurd (omega arith)
pairwise_at d (x ∷ l) w p zero h g = absurd (omega arith)
pairwise_at d (x ∷ l) w zero (suc q) h g = each_at (Before x) l d q (omega arith) w.0
pairwise_at d (x ∷ l) w (suc p) (suc q) h g = pairwise_at d l w.1 p q (omega arith) (omega arith)

-- ---- by the places of a lookup
rule-at :
    (flags : ℕ) (kind : Kind) (rs : List Rule) (d : Rule) → Wide (width kind) rs → (p : ℕ) → p < length rs → rule_at (listed flags kind rs) p ≡ get_or rs p d
unfolding Wide flat
rule-at flags kind [] d w p h = absurd (omega arith)
rule-at flags kind (r ∷ rs) d w zero h =
    rw (mul-zero (width kind), take_at r.components (flat rs) (width kind) w.0)
rule-at flags kind (r ∷ rs) d w (suc p) h =
    let e : width kind * suc p ≡ length r.components + width kind * p = omega (arith, w.0) in
    rw (e, drop-append-add r.components (flat rs) (width kind * p)) (rule-at flags kind rs d w.1 p (omega arith))

-- stands past the end of a list
nothing : Numbered
nothing = numbered_of 0 (record { components = []; ligature = 0 })

-- ---- the rule of a row
module _ (f : Font) (s : Sound f) (l : Lent) (long : l.count * width l.kind ≤ length l.codes) where
  abbrev n : ℕ
  n = width l.kind

  -- the row, and what its rule is if it gives one
  abbrev row_at : ℕ → Rule
  row_at m = row_of n l.codes (n * m) (form_at l m)

  abbrev glyphs_of : ℕ → Rule
  glyphs_of m = with_glyphs f (row_at m)

  abbrev tested : ℕ → Bool
  tested m = asks l.kind (row_at m) && (usable (glyphs_of m) && alters l.kind (glyphs_of m))

  ruled-none : [] ≡ ruled f l.kind []
  unfolding ruled
  ruled-none = refl

  ruled-one : (m : ℕ) → ruled f l.kind (row_at m ∷ []) ≡ cond (tested m) (glyphs_of m ∷ []) []
  unfolding ruled
  ruled-one m = go (asks l.kind (row_at m)) (usable (glyphs_of m)) refl
    where
      go :
          (a b : Bool) → usable (glyphs_of m) ≡ b
          → those (alters l.kind) (those usable (map (with_glyphs f) (cond a (row_at m ∷ []) [])))
          ≡ cond (a && (b && alters l.kind (glyphs_of m))) (glyphs_of m ∷ []) []
      go false b e = refl
      go true false e = rw e
      go true true e = rw e

  module _ (m : ℕ) (h : m < l.count) where
    inside : n * m + n ≤ length l.codes
    inside =
        let up : n * suc m ≤ n * l.count = mul-le-mul_left n h in
        omega (arith, up, long)

    tested-gives : tested m ≡ true → Gives f l m (glyphs_of m)
    tested-gives e =
        let a = both (asks l.kind (row_at m)) _ e in
        let b = both (usable (glyphs_of m)) (alters l.kind (glyphs_of m)) a.1 in
        let c = fits_head (glyphs_of m).ligature (glyphs_of m).components b.0 in
        record {
          row = h;
          wide = length-glyphs f n l.codes (n * m) inside;
          from = λ j g. shown f (code_at l m j) (get_or (glyphs_of m).components j 0) (glyph-of f n l.codes (n * m) inside j g) (fits-at (glyphs_of m).components c.1 j);
          to = shown f (form_at l m) (glyphs_of m).ligature refl c.0;
          formed = asks-form l.kind (row_at m) a.0;
          altered = λ k z. absurd (alters-other l.kind (glyphs_of m) b.1 k z);
        }

  module _ (m : ℕ) (r : Rule) (g : Gives f l m r) where
    room : n * m + n ≤ length l.codes
    room = inside m g.row

    gives_same : r ≡ glyphs_of m
    gives_same =
        let cs : r.components ≡ (glyphs_of m).components =
        ext_get_or 0 r.components (glyphs_of m).components (g.wide ∙ sym (length-glyphs f n l.codes (n * m) room))
        (λ j h.
        let k : j < n = omega (arith, g.wide) in
        sym (shows_glyph f s (code_at l m j) (get_or r.components j 0) (g.from j k)) ∙ sym (glyph-of f n l.codes (n * m) room j k))
        in
        ap₂ (λ (c : List ℕ) (x : ℕ). record { components = c; ligature = x }) cs (sym (shows_glyph f s (form_at l m) r.ligature g.to))

    gives-usable : usable r ≡ true
    unfolding fits
    gives-usable = rw (lt-ltb r.ligature 65536 g.to.4) (fits-places r.components (λ j h. (g.from j (omega (arith, g.wide))).4))

    gives-tested : tested m ≡ true
    gives-tested =
        let a : asks l.kind (row_at m) ≡ true = form-asks l.kind (row_at m) g.formed in
        let b : usable (glyphs_of m) ≡ true = subst (λ (x : Rule). usable x ≡ true) gives_same gives-usable in
        let c : alters l.kind (glyphs_of m) ≡ true = subst (λ (x : Rule). alters l.kind x ≡ true) gives_same (other-alters l.kind r g.altered) in
        rw (a, b, c)

  -- ---- the rules of rows, each with its row's number: of so many rows from row m on
  abbrev numbered : ℕ → ℕ → List Numbered
  numbered zero m = []
  numbered (suc c) m = cond (tested m) (numbered_of m (glyphs_of m) ∷ numbered c (suc m)) (numbered c (suc m))

  numbered-ruled : (c m : ℕ) → map rule_of (numbered c m) ≡ ruled f l.kind (rows c n l.each l.place (drop (n * m) l.codes) (drop (l.each * m) l.forms))
  unfolding rows
  numbered-ruled zero m = ruled-none
  numbered-ruled (suc c) m =
      let next : n * m + n ≡ n * suc m = omega arith in
      let step : l.each * m + l.each ≡ l.each * suc m = omega arith in
      rw (get_or-drop (l.each * m) l.forms l.place 0, drop-drop n (n * m) l.codes, drop-drop l.each (l.each * m) l.forms, next, step)
      (go (tested m) (numbered-ruled c (suc m)) ∙ sym (ruled_cons f l.kind (row_at m) (rest c m) ∙ ap (λ (x : List Rule). x ++ ruled f l.kind (rest c m)) (ruled-one m)))
    where
      rest : ℕ → ℕ → List Rule
      rest c m = rows c n l.each l.place (drop (n * suc m) l.codes) (drop (l.each * suc m) l.forms)

      go :
          (t : Bool) → map rule_of (numbered c (suc m)) ≡ ruled f l.kind (rest c m)
          → map rule_of (cond t (numbered_of m (glyphs_of m) ∷ numbered c (suc m)) (numbered c (suc m))) ≡ cond t (glyphs_of m ∷ []) [] ++ ruled f l.kind (rest c m)
      go true e = ap (λ (x : List Rule). glyphs_of m ∷ x) e
      go false e = e

  -- each is given by its row, none by a row before m
  numbered-given : (c m : ℕ) → m + c ≡ l.count → Each (λ t. Gives f l t.row t.rule) (numbered c m)
  numbered-given zero m e = tt
  numbered-given (suc c) m e = go (tested m) refl (numbered-given c (suc m) (omega arith))
    where
      go :
          (t : Bool) → tested m ≡ t → Each (λ x. Gives f l x.row x.rule) (numbered c (suc m))
          → Each (λ x. Gives f l x.row x.rule) (cond t (numbered_of m (glyphs_of m) ∷ numbered c (suc m)) (numbered c (suc m)))
      go true q later = (tested-gives m (omega arith) q, later)
      go false q later = later

  numbered-later : (c m k : ℕ) → k ≤ m → Each (λ t. k ≤ t.row) (numbered c m)
  numbered-later zero m k h = tt
  numbered-later (suc c) m k h = go (tested m) (numbered-later c (suc m) k (omega arith))
    where
      go : (t : Bool) → Each (λ x. k ≤ x.row) (numbered c (suc m)) → Each (λ x. k ≤ x.row) (cond t (numbered_of m (glyphs_of m) ∷ numbered c (suc m)) (numbered c (suc m)))
      go true later = (h, later)
      go false later = later

  -- each rule that a row gives is there
  numbered-every : (c m : ℕ) → m + c ≡ l.count → (x : ℕ) (r : Rule) → Gives f l x r → m ≤ x → Memᴰ (numbered_of x r) (numbered c m)
  numbered-every zero m e x r g h = absurd (omega (arith, g.row))
  numbered-every (suc c) m e x r g h = go (eqb x m) refl (λ q. numbered-every c (suc m) (omega arith) x r g q)
    where
      here : (t : Bool) → tested m ≡ t → x ≡ m → Memᴰ (numbered_of x r) (cond t (numbered_of m (glyphs_of m) ∷ numbered c (suc m)) (numbered c (suc m)))
      here true q z = Memᴰ.head (ap₂ numbered_of z (gives_same x r g ∙ ap glyphs_of z))
      here false q z = absurd (false≢true (sym q ∙ ap tested (sym z) ∙ gives-tested x r g))

      there : (t : Bool) → Memᴰ (numbered_of x r) (numbered c (suc m)) → Memᴰ (numbered_of x r) (cond t (numbered_of m (glyphs_of m) ∷ numbered c (suc m)) (numbered c (suc m)))
      there true p = Memᴰ.tail p
      there false p = p

      go : (t : Bool) → eqb x m ≡ t → (suc m ≤ x → Memᴰ (numbered_of x r) (numbered c (suc m))) → Memᴰ (numbered_of x r) (numbered (suc c) m)
      go true q later = here (tested m) refl (eqb-true x m q)
      go false q later = there (tested m) (later (omega (arith, h, eqb-false x m q)))

  -- in order
  numbered-ordered : (c m : ℕ) → Pairwise (sorted key_of (numbered c m))
  unfolding sorted
  numbered-ordered zero m = tt
  numbered-ordered (suc c) m = go (tested m) (numbered-ordered c (suc m))
    where
      go : (t : Bool) → Pairwise (sorted key_of (numbered c (suc m))) → Pairwise (sorted key_of (cond t (numbered_of m (glyphs_of m) ∷ numbered c (suc m)) (numbered c (suc m))))
      go true p =
          insert_pairwise (numbered_of m (glyphs_of m)) (sorted key_of (numbered c (suc m))) p
          (each-sorted key_of (λ t. suc m ≤ t.row) (numbered c (suc m)) (numbered-later c (suc m) (suc m) (omega arith)))
      go false p = p

  -- ---- the lookup of the rows
  abbrev all : List Numbered
  all = sorted key_of (numbered l.count 0)

  all-ruled : map rule_of all ≡ in_order (ruled f l.kind (rows l.count n l.each l.place l.codes l.forms))
  all-ruled =
      let from-the-first = numbered-ruled l.count 0 in
      let same : map rule_of (numbered l.count 0) ≡ ruled f l.kind (rows l.count n l.each l.place l.codes l.forms) = rw (mul-zero n, mul-zero l.each) at from-the-first in
      sym (sorted-map rule_of first key_of (numbered l.count 0) (each-any (λ t. refl) (numbered l.count 0))) ∙ ap in_order same

  all-given : Each (λ t. Gives f l t.row t.rule) all
  all-given = each-sorted key_of (λ t. Gives f l t.row t.rule) (numbered l.count 0) (numbered-given l.count 0 (omega arith))

  all-wide : (ts : List Numbered) → Each (λ t. Gives f l t.row t.rule) ts → Wide n (map rule_of ts)
  unfolding Wide
  all-wide [] p = tt
  all-wide (t ∷ ts) p = (p.0.wide, all-wide ts p.1)

  abbrev made : Lookup
  made = listed l.flags l.kind (map rule_of all)

  count : length made.substitutes ≡ length all
  count = length-map (map rule_of all) (λ r. r.ligature) ∙ length-map all rule_of

  at_place : (p : ℕ) → p < length made.substitutes → rule_at made p ≡ (get_or all p nothing).rule
  at_place p h =
      rule-at l.flags l.kind (map rule_of all) nothing.rule (all-wide all all-given) p (omega (arith, length-map (map rule_of all) (λ r. r.ligature)))
      ∙ get_or-map rule_of all p nothing

  made-of-rows : OfRows f l (record { mask = l.mask; lookup = made })
  made-of-rows =
      record {
        masked = refl;
        flagged = refl;
        named = refl;
        whole = length-flat n (map rule_of all) (all-wide all all-given) ∙ ap (λ (k : ℕ). k * n) (sym (length-map (map rule_of all) (λ r. r.ligature)));
        row_of = λ p. (get_or all p nothing).row;
        given = λ p h. rw (at_place p h) (each_at (λ t. Gives f l t.row t.rule) all nothing p (omega (arith, count)) all-given);
        once = λ p q h g. (before p q h g).0;
        every = has;
        ordered = λ p q h g. rw (ap first (at_place p (omega arith)), ap first (at_place q g)) (before p q h g).1;
      }
    where
      before : (p q : ℕ) → p < q → q < length made.substitutes → Before (get_or all p nothing) (get_or all q nothing)
      before p q h g = pairwise_at nothing all (numbered-ordered l.count 0) p q h (omega (arith, count))

      has : (m : ℕ) (r : Rule) → Gives f l m r → (p : ℕ) × (p < length made.substitutes) × ((get_or all p nothing).row ≡ m) × (rule_at made p ≡ r)
      has m r g =
          let t : Numbered = numbered_of m r in
          let a = mem_at t nothing all (mem_sorted t (numbered l.count 0) (numbered-every l.count 0 (omega arith) m r g (omega arith))) in
          let h : a.0 < length made.substitutes = omega (arith, a.1, count) in
          (a.0, h, ap (λ (x : Numbered). x.row) a.2, at_place a.0 h ∙ ap rule_of a.2)

  pub of-rows : OfRows f l (record { mask = l.mask; lookup = listed l.flags l.kind (in_order (ruled f l.kind (rows l.count n l.each l.place l.codes l.forms))) })
  of-rows = subst (λ (rs : List Rule). OfRows f l (record { mask = l.mask; lookup = listed l.flags l.kind rs })) all-ruled made-of-rows

-- ---- the entries of lists of rows
-- the rules of a list, as the definition has them
abbrev origin_of : Font → Lent → Origin
origin_of f l =
    record { mask = l.mask; flags = l.flags; kind = l.kind; rules = ruled f l.kind (rows l.count (width l.kind) l.each l.place l.codes l.forms) }

-- as many codes as its rows have
abbrev pub Long : Lent → Type 0
Long l = l.count * width l.kind ≤ length l.codes

pub of-lists : (f : Font) → Sound f → (ls : List Lent) → Each Long ls → OfLists f ls (kept (map (origin_of f) ls))
of-lists f s [] p = end
of-lists f s (l ∷ ls) p = go (eqb l.mask 0) (eqb (length rs) 0) refl refl (of-lists f s ls p.1)
  where
    rs : List Rule
    rs = in_order (origin_of f l).rules

    whole : OfRows f l (made_of (origin_of f l))
    whole = of-rows f s l p.0

    count : length (ligatures rs) ≡ length rs
    count = length-map rs (λ r. r.ligature)

    no_row : length rs ≡ 0 → Used f l → ⊥
    no_row e u = omega (arith, (whole.every u.1.0 u.1.1 u.1.2).1, count, e)

    go :
        (a b : Bool) → eqb l.mask 0 ≡ a → eqb (length rs) 0 ≡ b → OfLists f ls (kept (map (origin_of f) ls))
        → OfLists f (l ∷ ls) (cond (a || b) [] (made_of (origin_of f l) ∷ []) ++ kept (map (origin_of f) ls))
    go true b e d r = unused (λ u. u.0 (eqb-true l.mask 0 e)) r
    go false true e d r = unused (no_row (eqb-true (length rs) 0 d)) r
    go false false e d r =
        let some : 0 < length (ligatures rs) = omega (arith, count, eqb-false (length rs) 0 d) in
        used (eqb-false l.mask 0 e, (whole.row_of 0, rule_at (made_of (origin_of f l)).lookup 0, whole.given 0 some)) whole r

-- what is known of them: there are some exactly if a list is used, and each is of one that is
pub used-some : (f : Font) (ls : List Lent) (es : List Entry) → OfLists f ls es → (l : Lent) → Memᴰ l ls → Used f l → 0 < length es
used-some f _ _ end l m v = elim m [ ]
used-some f ls es (used u o r) l m v = omega arith
used-some f (x ∷ ls) es (unused n r) l (Memᴰ.head e) v = absurd (n (subst (Used f) e v))
used-some f (x ∷ ls) es (unused n r) l (Memᴰ.tail m) v = used-some f ls es r l m v

pub none_used : (f : Font) (ls : List Lent) (es : List Entry) → OfLists f ls es → ((l : Lent) → Memᴰ l ls → Used f l → ⊥) → length es ≡ 0
none_used f ls es end n = refl
none_used f (x ∷ ls) es (used u o r) n = absurd (n x (Memᴰ.head refl) u)
none_used f (x ∷ ls) es (unused d r) n = none_used f ls es r (λ l m. n l (Memᴰ.tail m))

pub list_at :
    (f : Font) (d : Entry) (ls : List Lent) (es : List Entry) → OfLists f ls es → (k : ℕ) → k < length es
    → (l : Lent) × Memᴰ l ls × Used f l × OfRows f l (get_or es k d)
list_at f d ls es end k h = absurd (omega arith)
list_at f d (x ∷ ls) (e ∷ es) (used u o r) zero h = (x, Memᴰ.head refl, u, o)
list_at f d (x ∷ ls) (e ∷ es) (used u o r) (suc k) h =
    let a = list_at f d ls es r k (omega arith) in
    (a.0, Memᴰ.tail a.1, a.2, a.3)
list_at f d (x ∷ ls) es (unused n r) k h =
    let a = list_at f d ls es r k h in
    (a.0, Memᴰ.tail a.1, a.2, a.3)
