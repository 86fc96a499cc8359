-- Rules, their sets and their columns: rules that begin alike (`Alike`, `leader-alike`, `Led`), as those of a set do (`led_sets`); the rules of their sets are the rules (`flatten_sets`), and rules put together from sets whose first glyphs rise fall into these sets (`sets_flatten`); first glyphs do not fall exactly when those of the sets rise (`leaders_rise`, `firsts-rise`);
-- rules of sets of n components are of n (`wide_flatten`).
-- Assumes nothing.
use mathlib.Core.Path.{◌≡◌, refl, sym, ap, subst, ◌∙◌}
use mathlib.Core.Bool.{Bool, true, false, cond, ◌&&◌}
use mathlib.Core.List.{List, [], ◌∷◌, ◌++◌, map, flatten}
use Prim.Native.Nat.{ℕ, ◌+◌, ◌<◌, ◌≤◌}
use native.Mathlib.Nat.{add-zero}
use native.Mathlib.Omega.{arith}
use borrow.Author.Tests.{eq-eqb, ne_eqb, le-leb, eqb-true, eqb-false, leb-true}
use lib.Dec.{eqb, leb}
use lib.ListN.{length}
use Rattle.laws.proofs.TestLaws.{both}
use Rattle.refusals.specs.Columns.{rising}
use Rattle.layouts.specs.Tables.{Rule, first, leader, onto, sets}
use Rattle.layouts.proofs.SetLaws.{Wide, wide-append, Grouped}

-- ---- numbers of which the first is at least `low`, and each other at least d more than the one before it
unfoldable rises : ℕ → ℕ → List ℕ → Bool
rises d low [] = true
rises d low (x ∷ xs) = leb low x && rises d (x + d) xs

rising-behind : (d x : ℕ) (xs : List ℕ) → rising d (x ∷ xs) ≡ rises d (x + d) xs
unfolding rises
rising-behind d x [] = refl
rising-behind d x (y ∷ ys) = ap (λ (b : Bool). leb (x + d) y && b) (rising-behind d y ys)

rising-rises : (d : ℕ) (xs : List ℕ) → rising d xs ≡ rises d 0 xs
unfolding rises
rising-rises d [] = refl
rising-rises d (x ∷ xs) = rw (le-leb 0 x (omega arith)) (rising-behind d x xs)

rises-parts : (d low x : ℕ) (xs : List ℕ) → rises d low (x ∷ xs) ≡ true → (low ≤ x) × (rises d (x + d) xs ≡ true)
unfolding rises
rises-parts d low x xs e =
    let b = both (leb low x) (rises d (x + d) xs) e in
    (leb-true low x b.0, b.1)

rises_lower : (d low low' : ℕ) (xs : List ℕ) → low' ≤ low → rises d low xs ≡ true → rises d low' xs ≡ true
unfolding rises
rises_lower d low low' [] h e = refl
rises_lower d low low' (x ∷ xs) h e =
    let b = rises-parts d low x xs e in
    rw (le-leb low' x (omega arith)) b.1

-- ---- rules that begin alike
unfoldable pub Alike : ℕ → List Rule → Type 0
Alike lead [] = Unit
Alike lead (r ∷ set) = (first r ≡ lead) × Alike lead set

pub leader-alike : (lead : ℕ) (set : List Rule) → 0 < length set → Alike lead set → leader set ≡ lead
unfolding Alike
leader-alike lead [] h a = absurd (omega arith)
leader-alike lead (r ∷ set) h a = a.0

-- sets that have a rule, and rules that begin alike
unfoldable pub Led : List (List Rule) → Type 0
Led [] = Unit
Led (set ∷ others) = (0 < length set) × Alike (leader set) set × Led others

pub led_sets : (rs : List Rule) → Led (sets rs)
unfolding sets Led Alike
led_sets [] = tt
led_sets (r ∷ rs) = go (sets rs) (led_sets rs)
  where
    go : (gs : List (List Rule)) → Led gs → Led (onto r gs)
    go [] k = (omega arith, (refl, tt), tt)
    go (g ∷ gs) k = same (eqb (first r) (leader g)) refl
      where
        same : (t : Bool) → eqb (first r) (leader g) ≡ t → Led (cond t ((r ∷ g) ∷ gs) ((r ∷ []) ∷ g ∷ gs))
        same true e = (omega arith, (refl, subst (λ (x : ℕ). Alike x g) (sym (eqb-true (first r) (leader g) e)) k.1), k.2)
        same false e = (omega arith, (refl, tt), k)

-- ---- sets and all their rules
pub flatten_sets : (rs : List Rule) → flatten (sets rs) ≡ rs
unfolding sets flatten
flatten_sets [] = refl
flatten_sets (r ∷ rs) = go (sets rs) ∙ ap (λ (l : List Rule). r ∷ l) (flatten_sets rs)
  where
    go : (gs : List (List Rule)) → flatten (onto r gs) ≡ r ∷ flatten gs
    go [] = refl
    go (g ∷ gs) = same (eqb (first r) (leader g))
      where
        same : (t : Bool) → flatten (cond t ((r ∷ g) ∷ gs) ((r ∷ []) ∷ g ∷ gs)) ≡ r ∷ flatten (g ∷ gs)
        same true = refl
        same false = refl

-- a set before rules that begin with greater glyphs
sets-front :
    (lead : ℕ) (g rs : List Rule) (gs : List (List Rule)) → 0 < length g → Alike lead g → sets rs ≡ gs → rises 1 (lead + 1) (map leader gs) ≡ true
    → sets (g ++ rs) ≡ g ∷ gs
unfolding Alike sets
sets-front lead [] rs gs h a e up = absurd (omega arith)
sets-front lead (q ∷ []) rs gs h a e up = rw e (go gs up)
  where
    go : (gs : List (List Rule)) → rises 1 (lead + 1) (map leader gs) ≡ true → onto q gs ≡ (q ∷ []) ∷ gs
    go [] up = refl
    go (g ∷ gs) up =
        rw (ne_eqb (first q) (leader g) (λ t. apart (rises-parts 1 (lead + 1) (leader g) (map leader gs) up).0 (sym a.0 ∙ t)))
      where
        apart : {x y : ℕ} → x + 1 ≤ y → x ≡ y → ⊥
        apart p q = omega arith
sets-front lead (q ∷ p ∷ g) rs gs h a e up = rw (sets-front lead (p ∷ g) rs gs (omega arith) a.1 e up, eq-eqb (first q) (first p) (a.0 ∙ sym a.1.0))

sets_flatten_from : (low : ℕ) (gs : List (List Rule)) → Led gs → rises 1 low (map leader gs) ≡ true → sets (flatten gs) ≡ gs
unfolding Led flatten sets
sets_flatten_from low [] k up = refl
sets_flatten_from low (g ∷ gs) k up =
    let b = rises-parts 1 low (leader g) (map leader gs) up in
    sets-front (leader g) g (flatten gs) gs k.0 k.1 (sets_flatten_from (leader g + 1) gs k.2 b.1) b.1

pub sets_flatten : (gs : List (List Rule)) → Led gs → rising 1 (map leader gs) ≡ true → sets (flatten gs) ≡ gs
sets_flatten gs k up = sets_flatten_from 0 gs k (sym (rising-rises 1 (map leader gs)) ∙ up)

-- ---- first glyphs
leaders_rise_from : (low : ℕ) (rs : List Rule) → rises 0 low (map first rs) ≡ true → rises 1 low (map leader (sets rs)) ≡ true
unfolding rises sets
leaders_rise_from low [] up = refl
leaders_rise_from low (q ∷ rs) up =
    let b = rises-parts 0 low (first q) (map first rs) up in
    go (sets rs) b.0 (leaders_rise_from (first q) rs (rw add-zero at b.1))
  where
    go : (gs : List (List Rule)) → low ≤ first q → rises 1 (first q) (map leader gs) ≡ true → rises 1 low (map leader (onto q gs)) ≡ true
    go [] h up = rw (le-leb low (first q) h)
    go (g ∷ gs) h up = same (eqb (first q) (leader g)) refl
      where
        b : (first q ≤ leader g) × (rises 1 (leader g + 1) (map leader gs) ≡ true)
        b = rises-parts 1 (first q) (leader g) (map leader gs) up

        same : (t : Bool) → eqb (first q) (leader g) ≡ t → rises 1 low (map leader (cond t ((q ∷ g) ∷ gs) ((q ∷ []) ∷ g ∷ gs))) ≡ true
        same true e = rw (le-leb low (first q) h, eqb-true (first q) (leader g) e) b.1
        same false e = rw (le-leb low (first q) h, le-leb (first q + 1) (leader g) (omega (arith, b.0, eqb-false (first q) (leader g) e))) b.1

pub leaders_rise : (rs : List Rule) → rising 0 (map first rs) ≡ true → rising 1 (map leader (sets rs)) ≡ true
leaders_rise rs up = rising-rises 1 (map leader (sets rs)) ∙ leaders_rise_from 0 rs (sym (rising-rises 0 (map first rs)) ∙ up)

firsts-rise-front :
    (lead low : ℕ) (g rs : List Rule) → 0 < length g → Alike lead g → low ≤ lead → rises 0 lead (map first rs) ≡ true → rises 0 low (map first (g ++ rs)) ≡ true
unfolding rises Alike
firsts-rise-front lead low [] rs h a w up = absurd (omega arith)
firsts-rise-front lead low (q ∷ []) rs h a w up = rw (a.0, le-leb low lead w, add-zero) up
firsts-rise-front lead low (q ∷ p ∷ g) rs h a w up =
    rw (le-leb low (first q) (omega (arith, a.0))) (rw (add-zero (first q), a.0) (firsts-rise-front lead lead (p ∷ g) rs (omega arith) a.1 (omega arith) up))

firsts-rise-from : (low : ℕ) (gs : List (List Rule)) → Led gs → rises 1 low (map leader gs) ≡ true → rises 0 low (map first (flatten gs)) ≡ true
unfolding rises Led flatten
firsts-rise-from low [] k up = refl
firsts-rise-from low (g ∷ gs) k up =
    let b = rises-parts 1 low (leader g) (map leader gs) up in
    firsts-rise-front (leader g) low g (flatten gs) k.0 k.1 b.0
    (rises_lower 0 (leader g + 1) (leader g) (map first (flatten gs)) (omega arith) (firsts-rise-from (leader g + 1) gs k.2 b.1))

pub firsts-rise : (gs : List (List Rule)) → Led gs → rising 1 (map leader gs) ≡ true → rising 0 (map first (flatten gs)) ≡ true
firsts-rise gs k up = rising-rises 0 (map first (flatten gs)) ∙ firsts-rise-from 0 gs k (sym (rising-rises 1 (map leader gs)) ∙ up)

-- ---- rules of n components
pub wide_flatten : (n : ℕ) (gs : List (List Rule)) → Grouped n gs → Wide n (flatten gs)
unfolding Wide Grouped flatten
wide_flatten n [] k = tt
wide_flatten n (g ∷ gs) k = wide-append n g (flatten gs) k.1 (wide_flatten n gs k.2)
