-- The ranges of mark reordering lie within the marks that the passes go over (`ranges-within`); where classes do not fall there is one for each block (`ranges-of-each`); and they miss nothing: a place in none of them keeps its mark (`kept-outside`, `line-outside`, `columns-outside`).
-- Assumes nothing.
use mathlib.Core.Path.{◌≡◌, refl, sym, ap, ap₂, ◌∙◌, subst}
use mathlib.Core.Bool.{Bool, true, false, cond}
use mathlib.Core.List.{List, [], ◌∷◌, ◌++◌, map, append-nil}
use mathlib.Core.Logic.{inl, inr}
use Prim.Native.Nat.{ℕ, suc, ◌+◌, ◌-◌, ◌≤◌, ◌<◌}
use native.Mathlib.Omega.{arith}
use borrow.Author.Tests.{lt-ltb, le-ltb, ltb-true, ltb-false, eqb-true}
use lib.Dec.{ltb}
use lib.ListN.{length, get_or, take, drop, length-append, length-map}
use lib.Seq.{get_or-append-add, length-take-le}
use Rattle.laws.specs.Lists.{those, behind}
use Rattle.laws.proofs.PartLaws.{three-parts, same-behind, same-before}
use Rattle.blocks.specs.Marks.{Mark, mark}
use Rattle.blocks.proofs.MarkLaws.{length-marks, codes-marks, classes-marks, column_at_lem}
use Rattle.marks.specs.Passes.{Span, Over, merged, skipped, block, others, smaller, moves, reorder_classes, new_class_lem, passes, ranges, renumber, numbered}
use Rattle.marks.specs.Reordered.{ReorderRequest, Columns, line, part, new_part, new_line, reordered, ranges_of}
use Rattle.marks.proofs.PassLaws.{pass_parts, length-passes}
use Rattle.marks.proofs.ReorderedLaws.{Allowed}
use Rattle.marks.specs.Utr53.{Least, Rising, of_class, is_modifier, lead, without}
use Rattle.marks.proofs.UtrLaws.{lead-without, pass_step, rising-without}
use Rattle.demands.specs.Marks.{AllWithin, beneath, spanned, Covered}

length-parts : (k : ℕ) (l : List Mark) → (length (skipped k l) + length (block k l) ≤ length l) × (length (block k l) + length (others k l) ≡ length l)
length-parts k l =
    let b = behind (moves k) (behind (smaller k) l) in
    let whole = ap length (pass_parts k l) in
    let first = length-append (skipped k l) (block k l ++ b) in
    let second = length-append (block k l) b in
    (omega arith, omega (arith, length-append (skipped k l) b))

-- the ranges of passes over marks that lie within the part
pub ranges-within :
    (q : ReorderRequest) (start : ℕ) (ks : List ℕ) (l : List Mark) → q.start ≤ start → start + length l ≤ q.end → AllWithin q (ranges start ks l)
unfolding ranges
ranges-within q start [] l h e = tt
ranges-within q start (k ∷ ks) l h e =
    let p = length-parts k l in
    go (block k l) p.0 _ (ranges-within q (start + length (block k l)) ks (others k l) (omega arith) (omega (arith, p.1)))
  where
    go :
        (b : List Mark) → length (skipped k l) + length b ≤ length l → (more : List Span) → AllWithin q more
        → AllWithin q (merged start (skipped k l) b ++ more)
    go [] p more w = w
    go (m ∷ b) p more w = ((omega arith, omega arith, omega arith), w)

-- a place that no range covers keeps its mark
pub kept-outside :
    (new : ℕ → ℕ) (start : ℕ) (ks : List ℕ) (l : List Mark) (p : ℕ) (d : Mark) → (Covered (start + p) (ranges start ks l) → ⊥) → get_or (passes new ks l) p d ≡ get_or l p d
unfolding passes ranges
kept-outside new start [] l p d h = refl
kept-outside new start (k ∷ ks) l p d h = go (block k l) (pass_parts k l) h (λ n. kept-outside new (start + length (block k l)) ks (others k l) n d)
  where
    Y : List Mark
    Y = behind (moves k) (behind (smaller k) l)

    go :
        (X : List Mark) → skipped k l ++ (X ++ Y) ≡ l
        → (Covered (start + p) (merged start (skipped k l) X ++ ranges (start + length X) ks (others k l)) → ⊥)
        → ((n : ℕ) → (Covered (start + length X + n) (ranges (start + length X) ks (others k l)) → ⊥) → get_or (passes new ks (others k l)) n d ≡ get_or (others k l) n d)
        → get_or (numbered (new k) X ++ passes new ks (others k l)) p d ≡ get_or l p d
    go [] e h on =
        let same : start + 0 + p ≡ start + p = omega arith in
        on p (λ u. h (subst (λ (n : ℕ). Covered n (ranges (start + 0) ks (others k l))) same u)) ∙ ap (λ (z : List Mark). get_or z p d) e
    go (m ∷ X) e h on = by (ltb p (length S + x)) refl
      where
        S : List Mark
        S = skipped k l

        x : ℕ
        x = length (m ∷ X)

        N : List Mark
        N = numbered (new k) (m ∷ X)

        by : (t : Bool) → ltb p (length S + x) ≡ t → get_or (N ++ passes new ks (others k l)) p d ≡ get_or l p d
        by true u = let b : p < length S + x = ltb-true p (length S + x) u in absurd (h (inl (omega arith, omega arith)))
        by false u =
            let b : length S + x ≤ p = ltb-false p (length S + x) u in
            let n : ℕ = p - x - length S in
            let l_n : length N ≡ x = length-map (m ∷ X) (renumber (new k)) in
            let taken : p ≡ length N + (length S + n) = omega (arith, l_n) in
            let place : start + x + (length S + n) ≡ start + p = omega arith in
            let whole : p ≡ length S + (x + n) = omega arith in
            ap (λ (i : ℕ). get_or (N ++ passes new ks (others k l)) i d) taken
            ∙ get_or-append-add N (passes new ks (others k l)) (length S + n) d
            ∙ on (length S + n) (λ u. h (inr (subst (λ (i : ℕ). Covered i (ranges (start + x) ks (others k l))) place u)))
            ∙ get_or-append-add S Y n d
            ∙ sym
            (ap (λ (z : List Mark). get_or z p d) (sym e)
            ∙ ap (λ (i : ℕ). get_or (S ++ ((m ∷ X) ++ Y)) i d) whole
            ∙ get_or-append-add S ((m ∷ X) ++ Y) (x + n) d
            ∙ get_or-append-add (m ∷ X) Y n d)

-- so of the line
pub line-outside :
    (q : ReorderRequest) (c : Columns) → Allowed q c → (p : ℕ) (d : Mark) → (Covered p (ranges_of q c) → ⊥) → get_or (new_line q c) p d ≡ get_or (line c) p d
line-outside q c a p d h =
    let T : List Mark = take q.start (line c) in
    let E : List Mark = drop q.end (line c) in
    let n : length (line c) ≡ length c.codes = length-marks c.codes c.classes a.even in
    let inside : q.end ≤ length (line c) = omega (arith, a.inside) in
    let before : length T ≡ q.start = length-take-le q.start (line c) (omega (arith, a.order)) in
    same-behind T (new_part q c ++ E) (part q c ++ E) p d
    (λ k e. same-before (new_part q c) (part q c) E k d (length-passes (new_class_lem q.low q.high) reorder_classes (part q c)) (kept-outside (new_class_lem q.low q.high) q.start reorder_classes (part q c) k d (λ u. h (subst (λ (i : ℕ). Covered i (ranges_of q c)) (sym (e ∙ ap (λ (i : ℕ). i + k) before)) u))))
    ∙ ap (λ (z : List Mark). get_or z p d) (sym (three-parts (line c) q.start q.end a.order inside))

-- and of its columns
pub columns-outside :
    (q : ReorderRequest) (c : Columns) → Allowed q c → (p : ℕ) → (Covered p (ranges_of q c) → ⊥)
    → (get_or (reordered q c).codes p 0 ≡ get_or c.codes p 0) × (get_or (reordered q c).classes p 0 ≡ get_or c.classes p 0)
columns-outside q c a p h =
    let column : (f : Mark → ℕ) → get_or (map f (new_line q c)) p (f (mark 0 0)) ≡ get_or (map f (line c)) p (f (mark 0 0)) =
    λ f. column_at_lem f (new_line q c) p (mark 0 0) ∙ ap f (line-outside q c a p (mark 0 0) h) ∙ sym (column_at_lem f (line c) p (mark 0 0))
    in
    (column (λ m. m.code) ∙ ap (λ (l : List ℕ). get_or l p 0) (codes-marks c.codes c.classes a.even), column (λ m. m.class) ∙ ap (λ (l : List ℕ). get_or l p 0) (classes-marks c.codes c.classes a.even))

-- ---- where classes do not fall
-- as many marks are skipped as are of smaller classes
none-beneath : (c k : ℕ) (l : List Mark) → c ≤ k → Least k l → beneath c l ≡ 0
none-beneath c k [] h p = refl
none-beneath c k (m ∷ l) h p = rw (le-ltb m.class c (omega (arith, p.0))) (none-beneath c k l h p.1)

skipped-beneath : (c : ℕ) (l : List Mark) → Rising l → length (skipped c l) ≡ beneath c l
unfolding smaller
skipped-beneath c [] r = refl
skipped-beneath c (m ∷ l) r = go (ltb m.class c) refl (skipped-beneath c l r.1)
  where
    go : (t : Bool) → ltb m.class c ≡ t → length (skipped c l) ≡ beneath c l → length (skipped c (m ∷ l)) ≡ beneath c (m ∷ l)
    go true e q = rw e (ap suc q)
    go false e q = rw e (sym (none-beneath c m.class l (ltb-false m.class c e) r.0))

-- the block of a class is beneath a larger one
lead-beneath : (c d : ℕ) → c < d → (l : List Mark) → beneath d l ≡ length (lead c l) + beneath d (without c l)
lead-beneath c d h [] = refl
lead-beneath c d h (m ∷ l) = go (of_class c m) (is_modifier m) refl refl (lead-beneath c d h l)
  where
    go :
        (t u : Bool) → of_class c m ≡ t → is_modifier m ≡ u → beneath d l ≡ length (lead c l) + beneath d (without c l)
        → beneath d (m ∷ l) ≡ length (lead c (m ∷ l)) + beneath d (without c (m ∷ l))
    go true true e f q =
        let below : m.class < d = omega (arith, eqb-true m.class c e) in
        simp (e, f, lt-ltb m.class d below) (omega (arith, q))
    go true false e f q = simp (e, f) (omega arith)
    go false u e f q = simp e (counted (ltb m.class d))
      where
        counted :
            (t : Bool)
            → length (cond t (m ∷ those (λ n. ltb n.class d) l) (those (λ n. ltb n.class d) l))
            ≡ length (lead c l) + length (cond t (m ∷ those (λ n. ltb n.class d) (without c l)) (those (λ n. ltb n.class d) (without c l)))
        counted true = omega (arith, q)
        counted false = q

merged-spanned : (start : ℕ) (a x : List Mark) → merged start a x ≡ spanned start (start + length a) x
merged-spanned start a [] = refl
merged-spanned start a (m ∷ x) =
    let e : start + (length a + length (m ∷ x)) ≡ start + length a + length (m ∷ x) = omega arith in
    ap (λ (n : ℕ). Over start n ∷ []) e

pub ranges-of-each :
    (start : ℕ) (l : List Mark) → Rising l
    → ranges start reorder_classes l ≡ spanned start (start + beneath 220 l) (lead 220 l) ++ spanned (start + length (lead 220 l)) (start + beneath 230 l) (lead 230 l)
unfolding ranges
ranges-of-each start l r =
    let p = pass_step 220 l r in
    let q = pass_step 230 (without 220 l) (rising-without 220 l r) in
    let other = lead-without 230 220 (λ z. omega arith) l in
    let first : merged start (skipped 220 l) (block 220 l) ≡ spanned start (start + beneath 220 l) (lead 220 l) =
    merged-spanned start (skipped 220 l) (block 220 l) ∙ ap₂ (λ (n : ℕ) (x : List Mark). spanned start (start + n) x) (skipped-beneath 220 l r) p.0
    in
    let begins : start + length (lead 220 l) + length (skipped 230 (without 220 l)) ≡ start + beneath 230 l =
    omega (arith, skipped-beneath 230 (without 220 l) (rising-without 220 l r), lead-beneath 220 230 (omega arith) l)
    in
    let second : merged (start + length (lead 220 l)) (skipped 230 (without 220 l)) (block 230 (without 220 l)) ≡ spanned (start + length (lead 220 l)) (start + beneath 230 l) (lead 230 l) =
    merged-spanned (start + length (lead 220 l)) (skipped 230 (without 220 l)) (block 230 (without 220 l))
    ∙ ap₂ (λ (n : ℕ) (x : List Mark). spanned (start + length (lead 220 l)) n x) begins (q.0 ∙ other)
    in
    ap₂ (λ (x y : List Span). x ++ y) first
    (append-nil (merged (start + length (block 220 l)) (skipped 230 (others 220 l)) (block 230 (others 220 l)))
    ∙ ap₂ (λ (x y : List Mark). merged (start + length x) (skipped 230 y) (block 230 y)) p.0 p.1
    ∙ second)
