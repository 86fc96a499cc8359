-- Two columns as one list of marks: its length, an element, a store, its parts, and its columns again, of which there is one pair (`marks-once`).
-- Assumes nothing.
use mathlib.Core.Path.{◌≡◌, refl, sym, ap, ◌∙◌}
use mathlib.Core.List.{List, [], ◌∷◌, ◌++◌, map}
use Prim.Native.Nat.{ℕ, zero, suc, ◌<◌}
use native.Mathlib.Omega.{arith}
use lib.ListN.{length, get_or, take, drop, set}
use Rattle.blocks.specs.Marks.{Mark, mark, marks, codes_of, classes_of}

pub nothing : Mark
nothing = mark 0 0

pub length-marks : (cs ks : List ℕ) → length cs ≡ length ks → length (marks cs ks) ≡ length cs
length-marks [] ks e = refl
length-marks (c ∷ cs) [] e = absurd (omega arith)
length-marks (c ∷ cs) (k ∷ ks) e = ap suc (length-marks cs ks (omega arith))

pub marks-at : (cs ks : List ℕ) (i : ℕ) (d : Mark) → i < length cs → length cs ≡ length ks → get_or (marks cs ks) i d ≡ mark (get_or cs i 0) (get_or ks i 0)
marks-at [] ks i d h e = absurd (omega arith)
marks-at (c ∷ cs) [] i d h e = absurd (omega arith)
marks-at (c ∷ cs) (k ∷ ks) zero d h e = refl
marks-at (c ∷ cs) (k ∷ ks) (suc i) d h e = marks-at cs ks i d (omega arith) (omega arith)

pub class-at : (cs ks : List ℕ) (i : ℕ) → i < length cs → length cs ≡ length ks → (get_or (marks cs ks) i nothing).class ≡ get_or ks i 0
class-at cs ks i h e = ap (λ (m : Mark). m.class) (marks-at cs ks i nothing h e)

pub marks-set : (cs ks : List ℕ) (i x y : ℕ) → marks (set cs i x) (set ks i y) ≡ set (marks cs ks) i (mark x y)
marks-set [] ks i x y = refl
marks-set (c ∷ cs) [] zero x y = refl
marks-set (c ∷ cs) [] (suc i) x y = refl
marks-set (c ∷ cs) (k ∷ ks) zero x y = refl
marks-set (c ∷ cs) (k ∷ ks) (suc i) x y = ap (λ (l : List Mark). mark c k ∷ l) (marks-set cs ks i x y)

pub marks-take : (n : ℕ) (cs ks : List ℕ) → marks (take n cs) (take n ks) ≡ take n (marks cs ks)
marks-take zero cs ks = refl
marks-take (suc n) [] ks = refl
marks-take (suc n) (c ∷ cs) [] = refl
marks-take (suc n) (c ∷ cs) (k ∷ ks) = ap (λ (l : List Mark). mark c k ∷ l) (marks-take n cs ks)

marks-none : (cs : List ℕ) → marks cs [] ≡ []
marks-none [] = refl
marks-none (c ∷ cs) = refl

pub marks-drop : (n : ℕ) (cs ks : List ℕ) → marks (drop n cs) (drop n ks) ≡ drop n (marks cs ks)
marks-drop zero cs ks = refl
marks-drop (suc n) [] ks = refl
marks-drop (suc n) (c ∷ cs) [] = marks-none (drop n cs)
marks-drop (suc n) (c ∷ cs) (k ∷ ks) = marks-drop n cs ks

pub marks-append : (a b c d : List ℕ) → length a ≡ length c → marks (a ++ b) (c ++ d) ≡ marks a c ++ marks b d
marks-append [] b [] d e = refl
marks-append [] b (k ∷ c) d e = absurd (omega arith)
marks-append (x ∷ a) b [] d e = absurd (omega arith)
marks-append (x ∷ a) b (k ∷ c) d e = ap (λ (l : List Mark). mark x k ∷ l) (marks-append a b c d (omega arith))

pub codes-marks : (cs ks : List ℕ) → length cs ≡ length ks → codes_of (marks cs ks) ≡ cs
codes-marks [] ks e = refl
codes-marks (c ∷ cs) [] e = absurd (omega arith)
codes-marks (c ∷ cs) (k ∷ ks) e = ap (λ (l : List ℕ). c ∷ l) (codes-marks cs ks (omega arith))

pub classes-marks : (cs ks : List ℕ) → length cs ≡ length ks → classes_of (marks cs ks) ≡ ks
classes-marks [] [] e = refl
classes-marks [] (k ∷ ks) e = absurd (omega arith)
classes-marks (c ∷ cs) [] e = absurd (omega arith)
classes-marks (c ∷ cs) (k ∷ ks) e = ap (λ (l : List ℕ). k ∷ l) (classes-marks cs ks (omega arith))

-- one list, one pair of columns
pub marks-once :
    (a b c d : List ℕ) → length a ≡ length b → length c ≡ length d → marks a b ≡ marks c d → (a ≡ c) × (b ≡ d)
marks-once a b c d e f m =
    (sym (codes-marks a b e) ∙ ap codes_of m ∙ codes-marks c d f, sym (classes-marks a b e) ∙ ap classes_of m ∙ classes-marks c d f)

pub marks-columns : (l : List Mark) → marks (codes_of l) (classes_of l) ≡ l
marks-columns [] = refl
marks-columns (m ∷ l) = ap (λ (x : List Mark). m ∷ x) (marks-columns l)

-- a column of a list of marks, at a place
pub column_at_lem : (f : Mark → ℕ) (l : List Mark) (i : ℕ) (d : Mark) → get_or (map f l) i (f d) ≡ f (get_or l i d)
column_at_lem f [] i d = refl
column_at_lem f (m ∷ l) zero d = refl
column_at_lem f (m ∷ l) (suc i) d = column_at_lem f l i d
