-- Laws of settled actions: a turn of the loop that settles them; which record's action a place has in the end, and a turn of the walk back to it.
-- Assumes nothing.
use mathlib.Core.Path.{◌≡◌, refl, sym, ap, ◌∙◌}
use mathlib.Core.Bool.{Bool, true, false, cond}
use mathlib.Core.List.{List, [], ◌∷◌, ◌++◌}
use Prim.Native.Nat.{ℕ, zero, suc, ◌+◌, ◌-◌, ◌<◌, ◌≤◌}
use native.Mathlib.Nat.{le_of_suc-le-suc}
use native.Mathlib.Omega.{arith}
use lib.ListN.{length, get_or, take, drop, set, length-drop, length-set, take-append-drop}
use lib.Seq.{take-set-le, drop-set-lt, get_or-set_same, set-get_or}
use Rattle.laws.proofs.LoopLaws.{drop-next, fill_next}
use Rattle.selectors.specs.Selectors.{selector, follow, settled, base}

-- ---- a turn of the loop: the record at i is settled, and what is left is settled from it on
module _ (cs acts : List ℕ) (i : ℕ) (e : length cs ≡ length acts) where
  -- v, which the record behind it then has, is stored there
  settled_turn :
      (v : ℕ) → v ≡ cond (selector (get_or cs (i + 1) 0)) (get_or acts i 0) (get_or acts (i + 1) 0) → i + 1 < length cs
      → take i acts ++ settled (drop i cs) (drop i acts)
      ≡ take (i + 1) (set acts (i + 1) v) ++ settled (drop (i + 1) cs) (drop (i + 1) (set acts (i + 1) v))
  settled_turn v q h =
      let l : i + 1 < length acts = omega arith in
      rw
      (drop-next cs i 0 (omega arith), drop-next cs (i + 1) 0 h, drop-next acts i 0 (omega arith), drop-next acts (i + 1) 0 l, drop-next (set acts (i + 1) v) (i + 1) 0 (simp length-set l), get_or-set_same acts (i + 1) v 0, drop-set-lt (i + 1 + 1) acts (i + 1) v (omega arith), take-set-le (i + 1) acts (i + 1) v (omega arith), ← q)
      (fill_next acts i (get_or acts i 0) _ (omega arith) ∙ rw (set-get_or acts i 0))

  -- the record behind it is a selector
  pub settled-takes :
      selector (get_or cs (i + 1) 0) ≡ true → i + 1 < length cs
      → take i acts ++ settled (drop i cs) (drop i acts)
      ≡ take (i + 1) (set acts (i + 1) (get_or acts i 0)) ++ settled (drop (i + 1) cs) (drop (i + 1) (set acts (i + 1) (get_or acts i 0)))
  settled-takes s h = settled_turn (get_or acts i 0) (simp s) h

  -- the record behind it is none
  pub settled_keeps :
      selector (get_or cs (i + 1) 0) ≡ false → i + 1 < length cs
      → take i acts ++ settled (drop i cs) (drop i acts) ≡ take (i + 1) acts ++ settled (drop (i + 1) cs) (drop (i + 1) acts)
  settled_keeps s h = settled_turn (get_or acts (i + 1) 0) (simp s) h ∙ rw (set-get_or acts (i + 1) 0)

  -- one record is left, or none
  pub settled-ends : length cs ≤ i + 1 → take i acts ++ settled (drop i cs) (drop i acts) ≡ acts
  settled-ends h = ap (λ (l : List ℕ). take i acts ++ l) (settled-short (drop i cs) (drop i acts) (simp length-drop (omega arith))) ∙ take-append-drop i acts
    where
      settled-short : (ds bs : List ℕ) → length ds ≤ 1 → settled ds bs ≡ bs
      settled-short [] bs l = refl
      settled-short (d ∷ []) [] l = refl
      settled-short (d ∷ []) (a ∷ bs) l = refl
      settled-short (d ∷ (f ∷ ds)) bs l = absurd (omega arith)

-- ---- places
-- a record but the first, and the one before it
follow-next :
    (v : ℕ) (cs acts : List ℕ) (k : ℕ) → suc k < length acts
    → get_or (follow v cs acts) (suc k) 0 ≡ cond (selector (get_or cs (suc k) 0)) (get_or (follow v cs acts) k 0) (get_or acts (suc k) 0)
follow-next v [] acts k h = refl
follow-next v (c ∷ cs) [] k h = absurd (omega arith)
follow-next v (c ∷ cs) (a ∷ []) k h = absurd (omega arith)
follow-next v (c ∷ []) (a ∷ (b ∷ acts)) k h = refl
follow-next v (c ∷ (d ∷ cs)) (a ∷ (b ∷ acts)) zero h = refl
follow-next v (c ∷ (d ∷ cs)) (a ∷ (b ∷ acts)) (suc k) h = follow-next (cond (selector c) v a) (d ∷ cs) (b ∷ acts) k (le_of_suc-le-suc h)

pub settled-next :
    (cs acts : List ℕ) (k : ℕ) → suc k < length acts
    → get_or (settled cs acts) (suc k) 0 ≡ cond (selector (get_or cs (suc k) 0)) (get_or (settled cs acts) k 0) (get_or acts (suc k) 0)
settled-next [] acts k h = refl
settled-next (c ∷ cs) [] k h = absurd (omega arith)
settled-next (c ∷ []) (a ∷ acts) k h = refl
settled-next (c ∷ (d ∷ cs)) (a ∷ []) k h = absurd (omega arith)
settled-next (c ∷ (d ∷ cs)) (a ∷ (b ∷ acts)) zero h = refl
settled-next (c ∷ (d ∷ cs)) (a ∷ (b ∷ acts)) (suc k) h = follow-next a (d ∷ cs) (b ∷ acts) k (le_of_suc-le-suc h)

length-follow : (v : ℕ) (cs acts : List ℕ) → length (follow v cs acts) ≡ length acts
length-follow v [] acts = refl
length-follow v (c ∷ cs) [] = refl
length-follow v (c ∷ cs) (a ∷ acts) = ap suc (length-follow (cond (selector c) v a) cs acts)

pub length-settled : (cs acts : List ℕ) → length (settled cs acts) ≡ length acts
length-settled [] acts = refl
length-settled (c ∷ cs) [] = refl
length-settled (c ∷ cs) (a ∷ acts) = ap suc (length-follow a cs acts)

-- the first record keeps its action
pub settled-first : (cs acts : List ℕ) → get_or (settled cs acts) 0 0 ≡ get_or acts 0 0
settled-first [] acts = refl
settled-first (c ∷ cs) [] = refl
settled-first (c ∷ cs) (a ∷ acts) = refl

pub base-reaches : (cs : List ℕ) (k : ℕ) → base cs k ≤ k
base-reaches cs zero = omega arith
base-reaches cs (suc k) = go (selector (get_or cs (suc k) 0)) (base-reaches cs k)
  where
    go : (s : Bool) → base cs k ≤ k → cond s (base cs k) (suc k) ≤ suc k
    go true ih = omega arith
    go false ih = omega arith

pub settled_at : (cs acts : List ℕ) (k : ℕ) → k < length acts → get_or (settled cs acts) k 0 ≡ get_or acts (base cs k) 0
settled_at cs acts zero h = settled-first cs acts
settled_at cs acts (suc k) h = settled-next cs acts k h ∙ go (selector (get_or cs (suc k) 0)) (settled_at cs acts k (omega arith))
  where
    go :
        (s : Bool) → get_or (settled cs acts) k 0 ≡ get_or acts (base cs k) 0
        → cond s (get_or (settled cs acts) k 0) (get_or acts (suc k) 0) ≡ get_or acts (cond s (base cs k) (suc k)) 0
    go true ih = ih
    go false ih = refl

-- ---- a turn of the walk back to it: past a selector, or the end at a record that is none
pub base-skips : (cs : List ℕ) (k : ℕ) → 0 < k → selector (get_or cs k 0) ≡ true → base cs k ≡ base cs (k - 1)
base-skips cs zero l e = absurd (omega arith)
base-skips cs (suc k) l e =
    let q : k ≡ suc k - 1 = omega arith in
    simp e (ap (base cs) q)

pub base-here : (cs : List ℕ) (k : ℕ) → 0 < k → selector (get_or cs k 0) ≡ false → base cs k ≡ k
base-here cs zero l e = absurd (omega arith)
base-here cs (suc k) l e = simp e

-- ---- one answer: that of `is_selector`, that of `base_of`, and the actions that `mongolian_variation_selectors` leaves
pub selector-once : (c : ℕ) {r s : Bool} → r ≡ selector c → s ≡ selector c → r ≡ s
selector-once c p q = p ∙ sym q

pub base-once : (cs : List ℕ) (k : ℕ) {j m : ℕ} → j ≡ base cs k → m ≡ base cs k → j ≡ m
base-once cs k p q = p ∙ sym q

pub settled-once : (cs acts : List ℕ) {l m : List ℕ} → l ≡ settled cs acts → m ≡ settled cs acts → l ≡ m
settled-once cs acts p q = p ∙ sym q
