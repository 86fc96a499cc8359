-- Mark reordering and UTR 53. Of any marks: the algorithm's two steps come to the 220 block, the 230 block and the rest (`steps`). Where classes do not fall: a pass is one of its steps
-- (`pass_step`), so that the passes come to what the steps do (`passes-arranged`), and the codes are those of UTR 53 (`passes-utr53`). Of any marks again: of those whose code passes a test
-- the passes keep the number (`number-passes`); and those that are no modifiers they leave as they are, in their order (`plain_passes`).
-- Assumes nothing.
use mathlib.Core.Path.{◌≡◌, refl, sym, ap, ap₂, ◌∙◌}
use mathlib.Core.Bool.{Bool, true, false, cond, not, ◌&&◌}
use mathlib.Core.List.{List, [], ◌∷◌, ◌++◌, map-append}
use Prim.Native.Nat.{ℕ, ◌+◌, ◌≤◌, ◌<◌}
use native.Mathlib.Omega.{arith}
use borrow.Author.Tests.{ne_eqb, le-ltb, eqb-true, eqb-false, ltb-true, ltb-false}
use lib.Dec.{ltb}
use lib.ListN.{length, length-append, length-map}
use Rattle.laws.specs.Lists.{those, front, behind}
use Rattle.laws.proofs.ListLaws.{those-append}
use Rattle.blocks.specs.Marks.{Mark, codes_of}
use Rattle.marks.specs.Modifiers.{modifier}
use Rattle.marks.specs.Passes.{smaller, moves, skipped, block, others, reorder_classes, new_class_lem, passes, renumber, numbered}
use Rattle.marks.proofs.PassLaws.{pass_parts}
use Rattle.marks.specs.Utr53.{Least, Rising, of_class, is_modifier, lead, without, to_beginning, utr53, arranged}

-- ---- the steps of two classes, on any marks
-- all marks are of the class d
abbrev AllOf : ℕ → List Mark → Type 0
AllOf d [] = Unit
AllOf d (m ∷ l) = (of_class d m ≡ true) × AllOf d l

those-all-of : (d : ℕ) (l : List Mark) → AllOf d (those (of_class d) l)
those-all-of d [] = tt
those-all-of d (m ∷ l) = go (of_class d m) refl (those-all-of d l)
  where
    go : (t : Bool) → of_class d m ≡ t → AllOf d (those (of_class d) l) → AllOf d (cond t (m ∷ those (of_class d) l) (those (of_class d) l))
    go true e a = (e, a)
    go false e a = a

front-all-of : (d : ℕ) (p : Mark → Bool) (l : List Mark) → AllOf d l → AllOf d (front p l)
front-all-of d p [] a = tt
front-all-of d p (m ∷ l) a = go (p m) (front-all-of d p l a.1)
  where
    go : (t : Bool) → AllOf d (front p l) → AllOf d (cond t (m ∷ front p l) [])
    go true b = (a.0, b)
    go false b = tt

lead-all-of : (d : ℕ) (l : List Mark) → AllOf d (lead d l)
lead-all-of d l = front-all-of d is_modifier (those (of_class d) l) (those-all-of d l)

module _ (c d : ℕ) (ne : c ≡ d → ⊥) where
  -- a mark of the class d is not of the class c
  other-class : (m : Mark) → of_class d m ≡ true → of_class c m ≡ false
  other-class m e = ne_eqb m.class c (λ z. ne (sym z ∙ eqb-true m.class d e))

  -- the marks of one class, behind those of another
  those-behind : (x y : List Mark) → AllOf d x → those (of_class c) (x ++ y) ≡ those (of_class c) y
  those-behind [] y a = refl
  those-behind (m ∷ x) y a = simp (other-class m a.0) (those-behind x y a.1)

  without-behind : (x y : List Mark) → AllOf d x → without c (x ++ y) ≡ x ++ without c y
  without-behind [] y a = refl
  without-behind (m ∷ x) y a = simp (other-class m a.0) (ap (λ (z : List Mark). m ∷ z) (without-behind x y a.1))

  -- taking the block of one class out leaves the marks of another
  those-without : (l : List Mark) → those (of_class c) (without d l) ≡ those (of_class c) l
  those-without [] = refl
  those-without (m ∷ l) = go (of_class d m) (is_modifier m) refl (those-without l)
    where
      go :
          (t u : Bool) → of_class d m ≡ t → those (of_class c) (without d l) ≡ those (of_class c) l
          → those (of_class c) (cond t (cond u (without d l) (m ∷ l)) (m ∷ without d l)) ≡ those (of_class c) (m ∷ l)
      go true true e q = simp (other-class m e) q
      go true false e q = refl
      go false u e q = ap (λ (x : List Mark). cond (of_class c m) (m ∷ x) x) q

  pub lead-without : (l : List Mark) → lead c (without d l) ≡ lead c l
  lead-without l = ap (front is_modifier) (those-without l)

  -- two steps, the later one's block in front
  pub two_steps : (l : List Mark) → to_beginning c (to_beginning d l) ≡ lead c l ++ (lead d l ++ without c (without d l))
  two_steps l =
      let a = lead-all-of d l in
      ap₂ (λ (x y : List Mark). x ++ y)
      (ap (front is_modifier) (those-behind (lead d l) (without d l) a) ∙ lead-without l) (without-behind (lead d l) (without d l) a)

-- the blocks of two classes may be taken out in either order
pub without-either : (c d : ℕ) → (c ≡ d → ⊥) → (l : List Mark) → without c (without d l) ≡ without d (without c l)
without-either c d ne [] = refl
without-either c d ne (m ∷ l) = go (of_class c m) (of_class d m) (is_modifier m) refl refl refl (without-either c d ne l)
  where
    go :
        (t u v : Bool) → of_class c m ≡ t → of_class d m ≡ u → is_modifier m ≡ v → without c (without d l) ≡ without d (without c l)
        → without c (cond u (cond v (without d l) (m ∷ l)) (m ∷ without d l)) ≡ without d (cond t (cond v (without c l) (m ∷ l)) (m ∷ without c l))
    go true true v e f g q = absurd (ne (sym (eqb-true m.class c e) ∙ eqb-true m.class d f))
    go true false true e f g q = simp (e, g) q
    go true false false e f g q = simp (e, f, g)
    go false true true e f g q = simp (f, g) q
    go false true false e f g q = simp (e, f, g)
    go false false v e f g q = simp (e, f) (ap (λ (x : List Mark). m ∷ x) q)

-- UTR 53's two steps: the step for 220 does not touch the 230 block, and finds its own as it stood
pub steps : (l : List Mark) → utr53 l ≡ lead 220 l ++ (lead 230 l ++ without 220 (without 230 l))
steps l = two_steps 220 230 (λ z. omega arith) l

-- ---- a pass, where classes do not fall
least_lower : (c d : ℕ) (l : List Mark) → c ≤ d → Least d l → Least c l
least_lower c d [] h p = tt
least_lower c d (m ∷ l) h p = (omega (arith, p.0), least_lower c d l h p.1)

-- where all classes are above c, none is of it
none_of : (c d : ℕ) (l : List Mark) → c < d → Least d l → (those (of_class c) l ≡ []) × (without c l ≡ l)
none_of c d [] h p = (refl, refl)
none_of c d (m ∷ l) h p =
    let q = none_of c d l h p.1 in
    simp (ne_eqb m.class c (λ e. omega (arith, p.0))) (q.0, ap (λ (x : List Mark). m ∷ x) q.1)

-- where none is smaller, a pass skips nothing
none-skipped : (c : ℕ) (l : List Mark) → Least c l → (front (smaller c) l ≡ []) × (behind (smaller c) l ≡ l)
unfolding smaller
none-skipped c [] p = (refl, refl)
none-skipped c (m ∷ l) p = simp (le-ltb m.class c p.0) (refl, refl)

-- a pass finds the block of UTR's step, and leaves the others as it does
pub pass_step : (c : ℕ) (l : List Mark) → Rising l → (block c l ≡ lead c l) × (others c l ≡ without c l)
unfolding smaller moves
pass_step c [] r = (refl, refl)
pass_step c (m ∷ l) r = go (ltb m.class c) (of_class c m) (is_modifier m) refl refl refl (pass_step c l r.1)
  where
    go :
        (s t u : Bool) → ltb m.class c ≡ s → of_class c m ≡ t → is_modifier m ≡ u → (block c l ≡ lead c l) × (others c l ≡ without c l)
        → (block c (m ∷ l) ≡ lead c (m ∷ l)) × (others c (m ∷ l) ≡ without c (m ∷ l))
    go true t u e f g q =
        let h : m.class < c = ltb-true m.class c e in
        simp (e, ne_eqb m.class c (λ z. omega arith)) (q.0, ap (λ (x : List Mark). m ∷ x) q.1)
    go false true true e f g q =
        let n = none-skipped c l (rw (eqb-true m.class c f) at r.0) in
        simp (e, f, g) (ap (λ (x : List Mark). m ∷ x) (simp n.1 at q.0), simp (n.0, n.1) at q.1)
    go false true false e f g q = simp (e, f, g) (refl, refl)
    go false false u e f g q =
        let d = eqb-false m.class c f in
        let h : c < m.class = omega (arith, ltb-false m.class c e, d) in
        let n = none_of c m.class l h r.0 in
        simp (e, f, n.0, n.1) (refl, refl)

-- what is left rises too
least-without : (k c : ℕ) (l : List Mark) → Least k l → Least k (without c l)
least-without k c [] p = tt
least-without k c (m ∷ l) p = go (of_class c m) (is_modifier m) (least-without k c l p.1)
  where
    go : (t u : Bool) → Least k (without c l) → Least k (cond t (cond u (without c l) (m ∷ l)) (m ∷ without c l))
    go true true q = q
    go true false q = p
    go false u q = (p.0, q)

pub rising-without : (c : ℕ) (l : List Mark) → Rising l → Rising (without c l)
rising-without c [] r = tt
rising-without c (m ∷ l) r = go (of_class c m) (is_modifier m) (rising-without c l r.1)
  where
    go : (t u : Bool) → Rising (without c l) → Rising (cond t (cond u (without c l) (m ∷ l)) (m ∷ without c l))
    go true true q = q
    go true false q = r
    go false u q = (least-without m.class c l r.0, q)

-- the passes of two classes
pub two-passes :
    (new : ℕ → ℕ) (c d : ℕ) → (c ≡ d → ⊥) → (l : List Mark) → Rising l
    → passes new (c ∷ d ∷ []) l ≡ numbered (new c) (lead c l) ++ (numbered (new d) (lead d l) ++ without c (without d l))
unfolding passes
two-passes new c d ne l r =
    let p = pass_step c l r in
    let q = pass_step d (without c l) (rising-without c l r) in
    rw (p.0, p.1, q.0, q.1, lead-without d c (λ z. ne (sym z)) l, without-either c d ne l)

-- the two passes of the call
pub passes-arranged : (low high : ℕ) (l : List Mark) → Rising l → passes (new_class_lem low high) reorder_classes l ≡ arranged low high l
passes-arranged low high l r = two-passes (new_class_lem low high) 220 230 (λ z. omega arith) l r

-- new numbers apart, they are UTR 53's steps
codes-numbered : (k : ℕ) (l : List Mark) → codes_of (numbered k l) ≡ codes_of l
codes-numbered k [] = refl
codes-numbered k (m ∷ l) = ap (λ (x : List ℕ). m.code ∷ x) (codes-numbered k l)

pub codes-arranged : (low high : ℕ) (l : List Mark) → codes_of (arranged low high l) ≡ codes_of (utr53 l)
codes-arranged low high l = rw (steps l) (simp (map-append, codes-numbered))

pub passes-utr53 : (low high : ℕ) (l : List Mark) → Rising l → codes_of (passes (new_class_lem low high) reorder_classes l) ≡ codes_of (utr53 l)
passes-utr53 low high l r = ap codes_of (passes-arranged low high l r) ∙ codes-arranged low high l

-- ---- any marks: nothing is lost or doubled
-- a test of codes, as one of marks
abbrev pub by_code : (ℕ → Bool) → Mark → Bool
by_code p m = p m.code

-- it passes whatever the class
those-numbered : (p : ℕ → Bool) (k : ℕ) (l : List Mark) → those (by_code p) (numbered k l) ≡ numbered k (those (by_code p) l)
those-numbered p k [] = refl
those-numbered p k (m ∷ l) = go (p m.code) (those-numbered p k l)
  where
    go :
        (t : Bool) → those (by_code p) (numbered k l) ≡ numbered k (those (by_code p) l)
        → cond t (renumber k m ∷ those (by_code p) (numbered k l)) (those (by_code p) (numbered k l)) ≡ numbered k (cond t (m ∷ those (by_code p) l) (those (by_code p) l))
    go true q = ap (λ (x : List Mark). renumber k m ∷ x) q
    go false q = q

-- how many marks pass it
abbrev pub number : (ℕ → Bool) → List Mark → ℕ
number p l = length (those (by_code p) l)

number_append : (p : ℕ → Bool) (x y : List Mark) → number p (x ++ y) ≡ number p x + number p y
number_append p x y = rw (those-append (by_code p) x y) (length-append (those (by_code p) x) (those (by_code p) y))

number_pass : (p : ℕ → Bool) (c : ℕ) (l : List Mark) → number p (block c l) + number p (others c l) ≡ number p l
number_pass p c l =
    let b = behind (moves c) (behind (smaller c) l) in
    omega (arith, ap (number p) (pass_parts c l), number_append p (skipped c l) (block c l ++ b), number_append p (block c l) b, number_append p (skipped c l) b)

pub number-passes : (p : ℕ → Bool) (new : ℕ → ℕ) (cs : List ℕ) (l : List Mark) → number p (passes new cs l) ≡ number p l
unfolding passes
number-passes p new [] l = refl
number-passes p new (c ∷ cs) l =
    let moved : number p (numbered (new c) (block c l)) ≡ number p (block c l) = rw (those-numbered p (new c) (block c l)) (length-map (those (by_code p) (block c l)) (renumber (new c))) in
    omega (arith, number_append p (numbered (new c) (block c l)) (passes new cs (others c l)), moved, number-passes p new cs (others c l), number_pass p c l)

-- ---- any marks: what is no modifier stays
abbrev pub plain : ℕ → Bool
plain code = not (modifier code)

plain-block : (c : ℕ) (l : List Mark) → those (by_code plain) (front (moves c) l) ≡ []
unfolding moves
plain-block c [] = refl
plain-block c (m ∷ l) = go (of_class c m) (is_modifier m) refl (plain-block c l)
  where
    go :
        (t u : Bool) → is_modifier m ≡ u → those (by_code plain) (front (moves c) l) ≡ [] → those (by_code plain) (cond (t && u) (m ∷ front (moves c) l) []) ≡ []
    go true true e q = simp e q
    go true false e q = refl
    go false u e q = refl

plain_pass : (c : ℕ) (l : List Mark) → those (by_code plain) (others c l) ≡ those (by_code plain) l
plain_pass c l =
    let b = behind (moves c) (behind (smaller c) l) in
    let whole : those (by_code plain) (skipped c l ++ (block c l ++ b)) ≡ those (by_code plain) (skipped c l ++ b) =
    simp (those-append, plain-block c (behind (smaller c) l))
    in
    sym whole ∙ ap (those (by_code plain)) (pass_parts c l)

pub plain_passes : (new : ℕ → ℕ) (cs : List ℕ) (l : List Mark) → those (by_code plain) (passes new cs l) ≡ those (by_code plain) l
unfolding passes
plain_passes new [] l = refl
plain_passes new (c ∷ cs) l =
    rw (those-append (by_code plain) (numbered (new c) (block c l)) (passes new cs (others c l)), those-numbered plain (new c) (block c l), plain-block c (behind (smaller c) l))
    (plain_passes new cs (others c l) ∙ plain_pass c l)
