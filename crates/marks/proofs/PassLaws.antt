-- What a pass does. Its three parts (`pass_parts`); what it gives once it has skipped a and stands at b (`passes-is`, `ranges-is`); that marks which are all smaller stay (`passes-low`, `ranges-low`); as
-- many marks as before (`length-passes`); and the range of a block (`merged_some`).
-- Assumes nothing.
use mathlib.Core.Path.{◌≡◌, refl, sym, ap, ap₂, ◌∙◌}
use mathlib.Core.List.{List, [], ◌∷◌, ◌++◌, append-nil}
use Prim.Native.Nat.{ℕ, ◌+◌, ◌≤◌, ◌<◌}
use native.Mathlib.Omega.{arith}
use borrow.Author.Tests.{lt-ltb, le-ltb}
use lib.ListN.{length, length-append, length-map}
use Rattle.laws.specs.Lists.{front, behind}
use Rattle.laws.proofs.ListLaws.{front-behind}
use Rattle.blocks.specs.Marks.{Mark}
use Rattle.marks.specs.Passes.{smaller, moves, skipped, block, others, passes, Over, merged, ranges, renumber, numbered}

-- every mark is of a class below c
abbrev pub Below : ℕ → List Mark → Type 0
Below c [] = Unit
Below c (m ∷ ms) = (m.class < c) × Below c ms

pub below_raise : {b c : ℕ} (l : List Mark) → b ≤ c → Below b l → Below c l
below_raise [] h p = tt
below_raise (m ∷ ms) h p = (omega (arith, p.0), below_raise ms h p.1)

pub below-append : (c : ℕ) (a b : List Mark) → Below c a → Below c b → Below c (a ++ b)
below-append c [] b p q = q
below-append c (m ∷ a) b p q = (p.0, below-append c a b p.1 q)

-- below each of the classes
abbrev pub Low : List ℕ → List Mark → Type 0
Low [] l = Unit
Low (c ∷ cs) l = Below c l × Low cs l

-- the skipping has come to its end: a mark of a class that is not smaller, or none
abbrev pub Stops : ℕ → List Mark → Type 0
Stops c [] = Unit
Stops c (m ∷ ms) = c ≤ m.class

-- what a pass skips, its block, and what is behind that
pub pass_parts : (c : ℕ) (l : List Mark) → skipped c l ++ (block c l ++ behind (moves c) (behind (smaller c) l)) ≡ l
pass_parts c l = rw (front-behind (moves c) (behind (smaller c) l)) (front-behind (smaller c) l)

front_low : (c : ℕ) (a b : List Mark) → Below c a → Stops c b → front (smaller c) (a ++ b) ≡ a
unfolding smaller
front_low c [] [] p s = refl
front_low c [] (m ∷ b) p s = rw (le-ltb m.class c s)
front_low c (m ∷ a) b p s = rw (lt-ltb m.class c p.0) (ap (λ (l : List Mark). m ∷ l) (front_low c a b p.1 s))

behind-low : (c : ℕ) (a b : List Mark) → Below c a → Stops c b → behind (smaller c) (a ++ b) ≡ b
unfolding smaller
behind-low c [] [] p s = refl
behind-low c [] (m ∷ b) p s = rw (le-ltb m.class c s)
behind-low c (m ∷ a) b p s = rw (lt-ltb m.class c p.0) (behind-low c a b p.1 s)

-- ---- a pass that has skipped a and stands at b
module _ (c : ℕ) (a b : List Mark) (p : Below c a) (s : Stops c b) where
  block-is : block c (a ++ b) ≡ front (moves c) b
  block-is = ap (front (moves c)) (behind-low c a b p s)

  others-is : others c (a ++ b) ≡ a ++ behind (moves c) b
  others-is = ap₂ (λ (x y : List Mark). x ++ behind (moves c) y) (front_low c a b p s) (behind-low c a b p s)

  pub passes-is :
      (new : ℕ → ℕ) (cs : List ℕ) → passes new (c ∷ cs) (a ++ b) ≡ numbered (new c) (front (moves c) b) ++ passes new cs (a ++ behind (moves c) b)
  unfolding passes
  passes-is new cs = ap₂ (λ (x y : List Mark). numbered (new c) x ++ passes new cs y) block-is others-is

  pub ranges-is :
      (start : ℕ) (cs : List ℕ)
      → ranges start (c ∷ cs) (a ++ b)
      ≡ merged start a (front (moves c) b) ++ ranges (start + length (front (moves c) b)) cs (a ++ behind (moves c) b)
  unfolding ranges
  ranges-is start cs =
      ap₂ (λ (x y : List Mark). merged start x y ++ ranges (start + length y) cs (others c (a ++ b))) (front_low c a b p s) block-is
      ∙ ap (λ (l : List Mark). merged start a (front (moves c) b) ++ ranges (start + length (front (moves c) b)) cs l) others-is

-- ---- marks that are smaller than the classes of all passes stay, and no range is given
pub passes-low : (new : ℕ → ℕ) (cs : List ℕ) (l : List Mark) → Low cs l → passes new cs l ≡ l
unfolding passes
passes-low new [] l p = refl
passes-low new (c ∷ cs) l p =
    let e = append-nil l in
    ap (passes new (c ∷ cs)) (sym e) ∙ passes-is c l [] p.0 tt new cs ∙ ap (passes new cs) e ∙ passes-low new cs l p.1

pub ranges-low : (start : ℕ) (cs : List ℕ) (l : List Mark) → Low cs l → ranges start cs l ≡ []
unfolding ranges
ranges-low start [] l p = refl
ranges-low start (c ∷ cs) l p =
    let e = append-nil l in
    ap (ranges start (c ∷ cs)) (sym e) ∙ ranges-is c l [] p.0 tt start cs ∙ ap (ranges (start + 0) cs) e ∙ ranges-low (start + 0) cs l p.1

-- as many marks as before
pub length-passes : (new : ℕ → ℕ) (cs : List ℕ) (l : List Mark) → length (passes new cs l) ≡ length l
unfolding passes
length-passes new [] l = refl
length-passes new (c ∷ cs) l =
    let b = behind (moves c) (behind (smaller c) l) in
    let taken = length-append (numbered (new c) (block c l)) (passes new cs (others c l)) in
    let parted = ap length (pass_parts c l) in
    omega (arith, taken, length-map (block c l) (renumber (new c)), length-passes new cs (others c l), length-append (skipped c l) b, parted, length-append (skipped c l) (block c l ++ b), length-append (block c l) b)

-- a block that is not empty has one range
pub merged_some : (start : ℕ) (a x : List Mark) → (length x ≡ 0 → ⊥) → merged start a x ≡ Over start (start + (length a + length x)) ∷ []
merged_some start a [] d = absurd (d refl)
merged_some start a (m ∷ x) d = refl
