-- When a lookup fits, all its numbers being of 16 bits: a single one by the number of its glyphs (`single-fits`); a ligature lookup by its last set's offset and its longest set (`ligature-fits`, `ligature-within`, `offset-over`, `set-over`), and never with over 16,383 rules (`too_many`). No number that decides is above the number of rules (`sets-few`, `longest-few`, `last-few`).
-- Its rules are to have n components, and numbers of 16 bits (`Regular`), as those of lent columns do (`regular-rules`).
-- Assumes nothing.
use mathlib.Core.Path.{◌≡◌, refl, sym, ap, ◌∙◌}
use mathlib.Core.Bool.{Bool, true, false, cond, ◌&&◌}
use mathlib.Core.List.{List, [], ◌∷◌, ◌++◌, map}
use Prim.Native.Nat.{ℕ, suc, ◌+◌, ◌*◌, ◌<◌, ◌≤◌, max}
use native.Mathlib.Nat.{mul-le-mul_right}
use native.Mathlib.Omega.{arith}
use borrow.Author.Tests.{lt-ltb, le-ltb, leb-true, leb-false, ltb-true, ltb-false}
use lib.Dec.{eqb, ltb, leb}
use lib.ListN.{length, take, drop, take-append-drop, length-map}
use Rattle.laws.proofs.TestLaws.{and_true, and_false}
use Rattle.layouts.specs.Tables.{Rule, first, leader, onto, sets, offsets, joined, coverage, single, rule_words, set_words, ligature_of, ligature}
use Rattle.layouts.specs.Lookups.{rules, fits}
use Rattle.layouts.specs.Extents.{longest, last_from}
use Rattle.layouts.proofs.FitLaws.{fits-append, fits-parts, fits_head, fits-at, and-later}
use Rattle.layouts.proofs.SetLaws.{Wide, wide-rules, Grouped, grouped, set-size, set-fits}
use Rattle.layouts.proofs.SizeLaws.{rules_in, rules_in-sets}

-- "n = 32,764 is written, 32,765 refused": where the coverage begins decides
pub single-fits :
    (flags : ℕ) (gs ss : List ℕ) → flags < 65536 → fits gs ≡ true → fits ss ≡ true → length gs ≡ length ss
    → fits (single flags gs ss) ≡ leb (length ss) 32764
unfolding single fits
single-fits flags gs ss f g s e = rw (lt-ltb flags 65536 f, fits-append ss (coverage gs), s, g, e) (go (length ss) (leb (length ss) 32764) refl)
  where
    go : (n : ℕ) (t : Bool) → leb n 32764 ≡ t → (ltb (6 + 2 * n) 65536 && (ltb n 65536 && (ltb n 65536 && true))) ≡ t
    go n true k =
        let h : n ≤ 32764 = leb-true n 32764 k in
        rw (lt-ltb (6 + 2 * n) 65536 (omega arith), lt-ltb n 65536 (omega arith))
    go n false k =
        let h : 32764 < n = leb-false n 32764 k in
        rw (le-ltb (6 + 2 * n) 65536 (omega arith))

-- ---- numbers of rules, of their sets, of columns
-- the words of each set's rules fit
abbrev Small : ℕ → List (List Rule) → Type 0
Small n [] = Unit
Small n (g ∷ gs) = (fits (joined (map (rule_words n) g)) ≡ true) × Small n gs

small-sets : (n : ℕ) (rs : List Rule) → fits (joined (map (rule_words n) rs)) ≡ true → Small n (sets rs)
unfolding sets joined fits
small-sets n [] e = tt
small-sets n (r ∷ rs) e =
    let p = fits-parts (rule_words n r) (joined (map (rule_words n) rs)) e in
    go p.0 (sets rs) (small-sets n rs p.1)
  where
    more : fits (rule_words n r) ≡ true → (g : List Rule) → fits (joined (map (rule_words n) g)) ≡ true → fits (rule_words n r ++ joined (map (rule_words n) g)) ≡ true
    more a g b = rw (fits-append (rule_words n r) (joined (map (rule_words n) g)), a, b)

    go : fits (rule_words n r) ≡ true → (gs : List (List Rule)) → Small n gs → Small n (onto r gs)
    go a [] s = (more a [] refl, tt)
    go a (g ∷ gs) s = same (eqb (first r) (leader g))
      where
        same : (t : Bool) → Small n (cond t ((r ∷ g) ∷ gs) ((r ∷ []) ∷ g ∷ gs))
        same true = (more a g s.0, s.1)
        same false = (more a [] refl, s)

leaders_fit : (rs : List Rule) → fits (map first rs) ≡ true → fits (map leader (sets rs)) ≡ true
unfolding sets fits
leaders_fit [] e = refl
leaders_fit (r ∷ rs) e =
    let p = fits_head (first r) (map first rs) e in
    go p.0 (sets rs) (leaders_fit rs p.1)
  where
    go : first r < 65536 → (gs : List (List Rule)) → fits (map leader gs) ≡ true → fits (map leader (onto r gs)) ≡ true
    go a [] s = rw (lt-ltb (first r) 65536 a)
    go a (g ∷ gs) s = same (eqb (first r) (leader g))
      where
        same : (t : Bool) → fits (map leader (cond t ((r ∷ g) ∷ gs) ((r ∷ []) ∷ g ∷ gs))) ≡ true
        same true = rw (lt-ltb (first r) 65536 a) (fits_head (leader g) (map leader gs) s).1
        same false = rw (lt-ltb (first r) 65536 a) s

fits_divided : (k : ℕ) (ws : List ℕ) → fits ws ≡ true → (fits (take k ws) ≡ true) × (fits (drop k ws) ≡ true)
fits_divided k ws e = fits-parts (take k ws) (drop k ws) (rw (take-append-drop k ws) e)

rules-fit : (n : ℕ) (cs ls : List ℕ) → n < 65536 → fits cs ≡ true → fits ls ≡ true → fits (joined (map (rule_words n) (rules n cs ls))) ≡ true
unfolding rules joined rule_words fits
rules-fit n cs [] h c l = refl
rules-fit n cs (x ∷ ls) h c l =
    let p = fits_head x ls l in
    let d = fits_divided n cs c in
    rw (lt-ltb x 65536 p.0, lt-ltb n 65536 h, fits-append (drop 1 (take n cs)) (joined (map (rule_words n) (rules n (drop n cs) ls))), (fits_divided 1 (take n cs) d.0).1)
    (rules-fit n (drop n cs) ls h d.1 p.1)

firsts-fit : (n : ℕ) (cs ls : List ℕ) → fits cs ≡ true → fits (map first (rules n cs ls)) ≡ true
unfolding rules fits
firsts-fit n cs [] c = refl
firsts-fit n cs (x ∷ ls) c =
    let d = fits_divided n cs c in
    rw (lt-ltb (first (record { components = take n cs; ligature = x })) 65536 (fits-at (take n cs) d.0 0)) (firsts-fit n (drop n cs) ls d.1)

-- rules of n components, all of whose numbers are of 16 bits
pub record Regular (n : ℕ) (rs : List Rule) : Type 0 where
  pub wide : Wide n rs
  pub words : fits (joined (map (rule_words n) rs)) ≡ true
  pub firsts : fits (map first rs) ≡ true

pub regular-rules : (n : ℕ) (cs ls : List ℕ) → n < 65536 → length cs ≡ length ls * n → fits cs ≡ true → fits ls ≡ true → Regular n (rules n cs ls)
regular-rules n cs ls h e c l = record { wide = wide-rules n cs ls e; words = rules-fit n cs ls h c l; firsts = firsts-fit n cs ls c }

-- ---- a ligature lookup
-- of two tests against one limit that of the greater number decides
and-max : (a b m k : ℕ) → (ltb (a * m) k && ltb (b * m) k) ≡ ltb (max a b * m) k
and-max a b m k = go (leb a b) refl
  where
    swap : (s t : Bool) → (s && t) ≡ (t && s)
    swap true true = refl
    swap true false = refl
    swap false true = refl
    swap false false = refl

    greater : (a b : ℕ) → a ≤ b → max a b ≡ b
    greater a b h = omega arith

    other : (a b : ℕ) → b ≤ a → max a b ≡ a
    other a b h = omega arith

    go : (t : Bool) → leb a b ≡ t → (ltb (a * m) k && ltb (b * m) k) ≡ ltb (max a b * m) k
    go true e = let h = leb-true a b e in rw (greater a b h) (and-later (a * m) (b * m) k (mul-le-mul_right m h))
    go false e =
        let h : b ≤ a = omega (arith, leb-false a b e) in
        rw (other a b h) (swap (ltb (a * m) k) (ltb (b * m) k) ∙ and-later (b * m) (a * m) k (mul-le-mul_right m h))

-- the last set begins behind where the first begins
last-behind : (before i : ℕ) (g : List Rule) (gs : List (List Rule)) → i ≤ last_from before i (g ∷ gs)
unfolding last_from
last-behind before i g [] = omega arith
last-behind before i g (h ∷ gs) = omega (arith, last-behind i (i + length g) h gs)

-- all rules are those before the last set, and that set's, which are no more than the longest has
rules-upto : (before i : ℕ) (g : List Rule) (gs : List (List Rule)) → i + rules_in (g ∷ gs) ≤ last_from before i (g ∷ gs) + longest (g ∷ gs)
unfolding last_from longest
rules-upto before i g [] = omega arith
rules-upto before i g (h ∷ gs) = omega (arith, rules-upto i (i + length g) h gs)

rules-few : (rs : List Rule) → length rs ≤ last_from 0 0 (sets rs) + longest (sets rs)
rules-few rs = omega (arith, go (sets rs), rules_in-sets rs)
  where
    go : (gs : List (List Rule)) → rules_in gs ≤ last_from 0 0 gs + longest gs
    go [] = omega arith
    go (g ∷ gs) = omega (arith, rules-upto 0 0 g gs)

module _ (n : ℕ) (low : 0 < n) where
  -- each set fits if the longest does
  sets-fit : (gs : List (List Rule)) → Grouped n gs → Small n gs → fits (joined (map (set_words n) gs)) ≡ ltb (longest gs * (4 + 2 * n)) (65536 + 2 * n)
  unfolding Grouped joined longest fits
  sets-fit [] k s = sym (lt-ltb (0 * (4 + 2 * n)) (65536 + 2 * n) (omega arith))
  sets-fit (g ∷ gs) k s =
      rw (fits-append (set_words n g) (joined (map (set_words n) gs)), set-fits n low g k.1 s.0 k.0, sets-fit gs k.2 s.1)
      (and-max (length g) (longest gs) (4 + 2 * n) (65536 + 2 * n))

  -- offsets rise, so that the last decides: where the first set begins, it has i rules before it
  offsets-fit :
      (o before i : ℕ) (g : List Rule) (gs : List (List Rule)) → Grouped n (g ∷ gs)
      → fits (offsets (o + i * (4 + 2 * n)) (map (set_words n) (g ∷ gs))) ≡ ltb (o + 2 * length gs + last_from before i (g ∷ gs) * (4 + 2 * n)) 65536
  unfolding Grouped offsets last_from fits
  offsets-fit o before i g [] k = and_true (ltb (o + i * (4 + 2 * n)) 65536) ∙ ap (λ (x : ℕ). ltb x 65536) (alone o (i * (4 + 2 * n)))
    where
      alone : (o x : ℕ) → o + x ≡ o + 0 + x
      alone o x = omega arith
  offsets-fit o before i g (h ∷ gs) k =
      let size : o + i * (4 + 2 * n) + 2 * length (set_words n g) ≡ o + 2 + (i + length g) * (4 + 2 * n) = omega (arith, set-size n low g k.1) in
      let last : ℕ = last_from i (i + length g) (h ∷ gs) in
      let after : o + 2 + 2 * length gs + last * (4 + 2 * n) ≡ o + 2 * suc (length gs) + last * (4 + 2 * n) = omega arith in
      let below : i * (4 + 2 * n) ≤ last * (4 + 2 * n) = mul-le-mul_right (4 + 2 * n) (omega (arith, last-behind i (i + length g) h gs)) in
      rw (size, offsets-fit (o + 2) i (i + length g) h gs k.2, after) (and-later (o + i * (4 + 2 * n)) (o + 2 * suc (length gs) + last * (4 + 2 * n)) 65536 (omega arith))

  set-offsets-fit :
      (gs : List (List Rule)) → Grouped n gs → fits (offsets (10 + 4 * length gs) (map (set_words n) gs)) ≡ ltb (8 + 6 * length gs + last_from 0 0 gs * (4 + 2 * n)) 65536
  unfolding offsets last_from fits
  set-offsets-fit [] k = sym (lt-ltb (8 + 6 * 0 + 0 * (4 + 2 * n)) 65536 (omega arith))
  set-offsets-fit (g ∷ gs) k =
      let last : ℕ = last_from 0 0 (g ∷ gs) in
      let begins : 10 + 4 * suc (length gs) ≡ 10 + 4 * suc (length gs) + 0 * (4 + 2 * n) = omega arith in
      let ends : 10 + 4 * suc (length gs) + 2 * length gs + last * (4 + 2 * n) ≡ 8 + 6 * suc (length gs) + last * (4 + 2 * n) = omega arith in
      ap (λ (o : ℕ). fits (offsets o (map (set_words n) (g ∷ gs)))) begins ∙ offsets-fit (10 + 4 * suc (length gs)) 0 0 g gs k ∙ ap (λ (x : ℕ). ltb x 65536) ends

  groups_fit :
      (flags : ℕ) (gs : List (List Rule)) → flags < 65536 → Grouped n gs → Small n gs → fits (map leader gs) ≡ true
      → fits (ligature_of flags n gs) ≡ (ltb (8 + 6 * length gs + last_from 0 0 gs * (4 + 2 * n)) 65536 && ltb (longest gs * (4 + 2 * n)) (65536 + 2 * n))
  unfolding ligature_of fits
  groups_fit flags gs f k s l =
      let blocks : List (List ℕ) = map (set_words n) gs in
      rw (
        lt-ltb flags 65536 f,
        fits-append (offsets (10 + 4 * length gs) blocks) (coverage (map leader gs) ++ joined blocks),
        fits-append (map leader gs) (joined blocks),
        l,
        length-map gs leader,
        set-offsets-fit gs k,
        sets-fit gs k s,
      )
      (go (length gs) (last_from 0 0 gs * (4 + 2 * n)) (ltb (longest gs * (4 + 2 * n)) (65536 + 2 * n)))
    where
      -- the count and the coverage's offset are below the last set's offset
      go :
          (c x : ℕ) (t : Bool)
          → (ltb (6 + 2 * c) 65536 && (ltb c 65536 && (ltb (8 + 6 * c + x) 65536 && (ltb c 65536 && t)))) ≡ (ltb (8 + 6 * c + x) 65536 && t)
      go c x t = by (ltb (8 + 6 * c + x) 65536) refl
        where
          by :
              (u : Bool) → ltb (8 + 6 * c + x) 65536 ≡ u
              → (ltb (6 + 2 * c) 65536 && (ltb c 65536 && (u && (ltb c 65536 && t)))) ≡ (u && t)
          by true e =
              let h = ltb-true (8 + 6 * c + x) 65536 e in
              rw (lt-ltb (6 + 2 * c) 65536 (omega arith), lt-ltb c 65536 (omega arith))
          by false e = rw (and_false (ltb c 65536), and_false (ltb (6 + 2 * c) 65536))

-- no more sets than rules, nor more rules in one of them, and the last begins with one of them
pub sets-few : (rs : List Rule) → length (sets rs) ≤ length rs
unfolding sets
sets-few [] = omega arith
sets-few (r ∷ rs) = go (sets rs) (sets-few rs)
  where
    go : (gs : List (List Rule)) → length gs ≤ length rs → length (onto r gs) ≤ suc (length rs)
    go [] h = omega arith
    go (g ∷ gs) h = same (eqb (first r) (leader g))
      where
        same : (t : Bool) → length (cond t ((r ∷ g) ∷ gs) ((r ∷ []) ∷ g ∷ gs)) ≤ suc (length rs)
        same true = omega arith
        same false = omega arith

pub longest-few : (rs : List Rule) → longest (sets rs) ≤ length rs
unfolding longest
longest-few rs = omega (arith, go (sets rs), rules_in-sets rs)
  where
    go : (gs : List (List Rule)) → longest gs ≤ rules_in gs
    go [] = omega arith
    go (g ∷ gs) = omega (arith, go gs)

pub last-few : (rs : List Rule) → last_from 0 0 (sets rs) ≤ length rs
unfolding last_from
last-few rs = omega (arith, go 0 0 (sets rs) (omega arith), rules_in-sets rs)
  where
    go : (before i : ℕ) (gs : List (List Rule)) → before ≤ i → last_from before i gs ≤ i + rules_in gs
    go before i [] h = omega arith
    go before i (g ∷ gs) h = omega (arith, go i (i + length g) gs (omega arith))

-- the last set's offset decides, and the last rule's offset in the longest set
module _ (flags n : ℕ) (rs : List Rule) (low : 0 < n) (f : flags < 65536) (g : Regular n rs) where
  pub ligature-fits :
      fits (ligature flags n rs)
      ≡ (ltb (8 + 6 * length (sets rs) + last_from 0 0 (sets rs) * (4 + 2 * n)) 65536 && ltb (longest (sets rs) * (4 + 2 * n)) (65536 + 2 * n))
  unfolding ligature
  ligature-fits = groups_fit n low flags (sets rs) f (grouped n rs g.wide) (small-sets n rs g.words) (leaders_fit rs g.firsts)

  pub ligature-within :
      8 + 6 * length (sets rs) + last_from 0 0 (sets rs) * (4 + 2 * n) < 65536 → longest (sets rs) * (4 + 2 * n) < 65536 + 2 * n
      → fits (ligature flags n rs) ≡ true
  ligature-within h k = ligature-fits ∙ rw (lt-ltb _ _ h, lt-ltb _ _ k)

  pub offset-over : 65535 < 8 + 6 * length (sets rs) + last_from 0 0 (sets rs) * (4 + 2 * n) → fits (ligature flags n rs) ≡ false
  offset-over h = ligature-fits ∙ rw (le-ltb (8 + 6 * length (sets rs) + last_from 0 0 (sets rs) * (4 + 2 * n)) 65536 (omega arith))

  pub set-over : 65535 + 2 * n < longest (sets rs) * (4 + 2 * n) → fits (ligature flags n rs) ≡ false
  set-over h = ligature-fits ∙ rw (le-ltb (longest (sets rs) * (4 + 2 * n)) (65536 + 2 * n) (omega arith)) (and_false (ltb (8 + 6 * length (sets rs) + last_from 0 0 (sets rs) * (4 + 2 * n)) 65536))

  -- those before the last set are too many, or those of the longest are
  pub too_many : 2 ≤ n → 16383 < length rs → fits (ligature flags n rs) ≡ false
  too_many two many = go (ltb 65535 offset) refl
    where
      offset : ℕ
      offset = 8 + 6 * length (sets rs) + last_from 0 0 (sets rs) * (4 + 2 * n)

      all : 65536 + 16384 * (2 * n) ≤ last_from 0 0 (sets rs) * (4 + 2 * n) + longest (sets rs) * (4 + 2 * n)
      all = omega (arith, mul-le-mul_right (4 + 2 * n) (rules-few rs), mul-le-mul_right (4 + 2 * n) many)

      go : (t : Bool) → ltb 65535 offset ≡ t → fits (ligature flags n rs) ≡ false
      go true e = offset-over (ltb-true 65535 offset e)
      go false e = set-over (omega (arith, all, ltb-false 65535 offset e))
