-- Rules and sets of a ligature lookup, over the number n of components: rules of n components (`Wide`, `wide-drop`, `wide-take`, `wide-append`, `wide-rules`); where they begin in a set (`offsets-rules`) and how many bytes they take (`length_bodies`, `set-size`); when a set fits (`set-fits`);
-- the first set is the rules that begin alike (`run`, `sets-run`); each set has a rule, of n components, and they are all the rules (`Grouped`, `grouped`).
-- Assumes nothing.
use mathlib.Core.Path.{◌≡◌, refl, sym, ap, ◌∙◌}
use mathlib.Core.Bool.{Bool, true, false, cond, ◌&&◌}
use mathlib.Core.List.{List, [], ◌∷◌, ◌++◌, map}
use Prim.Native.Nat.{ℕ, zero, suc, ◌+◌, ◌*◌, ◌<◌}
use native.Mathlib.Nat.{zero-mul}
use native.Mathlib.Omega.{arith}
use borrow.Author.Tests.{eq-eqb, ne_eqb, eqb-true}
use lib.Dec.{eqb, ltb}
use lib.ListN.{length, take, drop, length-append, length-take, length-drop}
use Rattle.layouts.specs.Tables.{Rule, first, leader, onto, sets, offsets, evenly, joined, rule_words, set_words}
use Rattle.layouts.specs.Lookups.{rules, fits}
use Rattle.layouts.proofs.FitLaws.{fits-append, fits-evenly, length-evenly, and-later, ltb-same}

-- ---- rules of n components
unfoldable pub Wide : ℕ → List Rule → Type 0
Wide n [] = Unit
Wide n (r ∷ rs) = (length r.components ≡ n) × Wide n rs

pub wide-drop : (n : ℕ) (rs : List Rule) (i : ℕ) → Wide n rs → Wide n (drop i rs)
unfolding Wide
wide-drop n [] zero w = w
wide-drop n [] (suc i) w = w
wide-drop n (r ∷ rs) zero w = w
wide-drop n (r ∷ rs) (suc i) w = wide-drop n rs i w.1

pub wide-take : (n : ℕ) (rs : List Rule) (i : ℕ) → Wide n rs → Wide n (take i rs)
unfolding Wide
wide-take n [] zero w = w
wide-take n [] (suc i) w = w
wide-take n (r ∷ rs) zero w = tt
wide-take n (r ∷ rs) (suc i) w = (w.0, wide-take n rs i w.1)

pub wide-append : (n : ℕ) (g rs : List Rule) → Wide n g → Wide n rs → Wide n (g ++ rs)
unfolding Wide
wide-append n [] rs v w = w
wide-append n (r ∷ g) rs v w = (v.0, wide-append n g rs v.1 w)

-- "flat components number N times the ligatures"
pub wide-rules : (n : ℕ) (cs ls : List ℕ) → length cs ≡ length ls * n → Wide n (rules n cs ls)
unfolding Wide rules
wide-rules n cs [] e = tt
wide-rules n cs (l ∷ ls) e = (simp length-take (omega arith), wide-rules n (drop n cs) ls (simp length-drop (omega arith)))

-- ---- a set of rules of n components
module _ (n : ℕ) (low : 0 < n) where
  length-rule : (r : Rule) → length r.components ≡ n → length (rule_words n r) ≡ n + 1
  unfolding rule_words
  length-rule r e = simp length-drop (omega arith)

  pub offsets-rules : (g : List Rule) (o : ℕ) → Wide n g → offsets o (map (rule_words n) g) ≡ evenly (length g) o (2 + 2 * n)
  unfolding Wide offsets
  offsets-rules [] o w = refl
  offsets-rules (r ∷ g) o w = rw (length-rule r w.0, twice n, offsets-rules g (o + (2 + 2 * n)) w.1)
    where
      twice : (n : ℕ) → 2 * (n + 1) ≡ 2 + 2 * n
      twice n = omega arith

  pub length_bodies : (g : List Rule) → Wide n g → length (joined (map (rule_words n) g)) ≡ length g * (n + 1)
  unfolding Wide joined
  length_bodies [] w = sym (zero-mul (n + 1))
  length_bodies (r ∷ g) w = simp length-append (omega (arith, length_bodies g w.1, length-rule r w.0))

  pub set-size : (g : List Rule) → Wide n g → 2 * length (set_words n g) ≡ 2 + length g * (4 + 2 * n)
  unfolding set_words
  set-size g w = simp (length-append, offsets-rules g (2 + 2 * length g) w, length-evenly, length_bodies g w) (omega arith)

  -- a set fits if its rules do and the offset of its last rule does
  pub set-fits : (g : List Rule) → Wide n g → fits (joined (map (rule_words n) g)) ≡ true → 0 < length g → fits (set_words n g) ≡ ltb (length g * (4 + 2 * n)) (65536 + 2 * n)
  unfolding set_words fits
  set-fits g w b h = rw (fits-append, offsets-rules g (2 + 2 * length g) w, b) (go (length g) h)
    where
      last : (c : ℕ) → 2 + 2 * suc c + c * (2 + 2 * n) < 65536 → suc c * (4 + 2 * n) < 65536 + 2 * n
      last c h = omega arith

      last_of : (c : ℕ) → suc c * (4 + 2 * n) < 65536 + 2 * n → 2 + 2 * suc c + c * (2 + 2 * n) < 65536
      last_of c h = omega arith

      true_behind : (s t : Bool) → (s && (t && true)) ≡ (s && t)
      true_behind true true = refl
      true_behind true false = refl
      true_behind false t = refl

      go : (c : ℕ) → 0 < c → (ltb c 65536 && (fits (evenly c (2 + 2 * c) (2 + 2 * n)) && true)) ≡ ltb (c * (4 + 2 * n)) (65536 + 2 * n)
      go zero h = absurd (omega arith)
      go (suc c) h =
          true_behind (ltb (suc c) 65536) (fits (evenly (suc c) (2 + 2 * suc c) (2 + 2 * n)))
          ∙ rw (fits-evenly c (2 + 2 * suc c) (2 + 2 * n))
          (and-later (suc c) (2 + 2 * suc c + c * (2 + 2 * n)) 65536 (omega arith)
          ∙ ltb-same (2 + 2 * suc c + c * (2 + 2 * n)) 65536 (suc c * (4 + 2 * n)) (65536 + 2 * n) (last c) (last_of c))

-- ---- the first set
-- how many of the next rules begin with f
unfoldable pub run : ℕ → List Rule → ℕ
run f [] = 0
run f (r ∷ rs) = cond (eqb f (first r)) (suc (run f rs)) 0

pub run_more : (f : ℕ) (r : Rule) (rs : List Rule) → f ≡ first r → run f (r ∷ rs) ≡ suc (run f rs)
unfolding run
run_more f r rs e = rw (eq-eqb f (first r) e)

pub run-stop : (f : ℕ) (r : Rule) (rs : List Rule) → (f ≡ first r → ⊥) → run f (r ∷ rs) ≡ 0
unfolding run
run-stop f r rs e = rw (ne_eqb f (first r) e)

-- a rule and those behind it that begin alike
pub sets-run : (r : Rule) (rs : List Rule) → sets (r ∷ rs) ≡ (r ∷ take (run (first r) rs) rs) ∷ sets (drop (run (first r) rs) rs)
unfolding sets run
sets-run r [] = refl
sets-run r (q ∷ qs) = rw (sets-run q qs) (go (eqb (first r) (first q)) refl (sets-run q qs))
  where
    go :
        (t : Bool) → eqb (first r) (first q) ≡ t → sets (q ∷ qs) ≡ (q ∷ take (run (first q) qs) qs) ∷ sets (drop (run (first q) qs) qs)
        → cond t ((r ∷ q ∷ take (run (first q) qs) qs) ∷ sets (drop (run (first q) qs) qs)) ((r ∷ []) ∷ (q ∷ take (run (first q) qs) qs) ∷ sets (drop (run (first q) qs) qs))
        ≡ (r ∷ take (cond t (suc (run (first r) qs)) 0) (q ∷ qs)) ∷ sets (drop (cond t (suc (run (first r) qs)) 0) (q ∷ qs))
    go true e rec = ap (λ (f : ℕ). (r ∷ q ∷ take (run f qs) qs) ∷ sets (drop (run f qs) qs)) (sym (eqb-true (first r) (first q) e))
    go false e rec = ap (λ (l : List (List Rule)). (r ∷ []) ∷ l) (sym rec)

-- ---- all sets
-- each has a rule, and rules of n components
unfoldable pub Grouped : ℕ → List (List Rule) → Type 0
Grouped n [] = Unit
Grouped n (g ∷ gs) = (0 < length g) × Wide n g × Grouped n gs

pub grouped : (n : ℕ) (rs : List Rule) → Wide n rs → Grouped n (sets rs)
unfolding Wide Grouped sets
grouped n [] w = tt
grouped n (r ∷ rs) w = go (sets rs) (grouped n rs w.1)
  where
    go : (gs : List (List Rule)) → Grouped n gs → Grouped n (onto r gs)
    go [] k = (omega arith, (w.0, tt), tt)
    go (g ∷ gs) k = same (eqb (first r) (leader g))
      where
        same : (t : Bool) → Grouped n (cond t ((r ∷ g) ∷ gs) ((r ∷ []) ∷ g ∷ gs))
        same true = (omega arith, (w.0, k.1), k.2)
        same false = (omega arith, (w.0, tt), k)
