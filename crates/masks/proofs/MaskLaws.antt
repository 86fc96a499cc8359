-- Laws of a line's masks: a turn of the loop that fills them; their number; the mask of a place.
-- Assumes nothing.
use mathlib.Core.Path.{◌≡◌, refl, sym, ap, ◌∙◌}
use mathlib.Core.List.{List, [], ◌∷◌, ◌++◌}
use Prim.Native.Nat.{ℕ, zero, suc, ◌+◌, ◌<◌, ◌≤◌}
use native.Mathlib.Nat.{le_of_suc-le-suc}
use native.Mathlib.Omega.{arith}
use lib.Bits.{or_zero_r}
use lib.ListN.{length, get_or, take, drop, set, drop_of_length-le, get_or-eq_default}
use Rattle.laws.proofs.LoopLaws.{drop-next, fill_next, fill_end}
use Rattle.masks.specs.Masks.{mask, masks}

-- past the entries there is the base mask alone
pub mask-past : (f : List ℕ) (b a : ℕ) → length f ≤ a → mask f b a ≡ b
unfolding mask
mask-past f b a h = rw (get_or-eq_default f 0 h) (or_zero_r b)

-- ---- a turn of the loop
module _ (f bs acts out : List ℕ) (i : ℕ) (e : length bs ≡ length acts) (g : length bs ≡ length out) where
  pub masks_turn :
      (v : ℕ) → v ≡ mask f (get_or bs i 0) (get_or acts i 0) → i < length bs
      → take i out ++ masks f (drop i bs) (drop i acts) ≡ take (i + 1) (set out i v) ++ masks f (drop (i + 1) bs) (drop (i + 1) acts)
  masks_turn v q h = rw (drop-next bs i 0 h, drop-next acts i 0 (omega arith), ← q) (fill_next out i v _ (omega arith))

  pub masks-end : length bs ≤ i → take i out ++ masks f (drop i bs) (drop i acts) ≡ out
  masks-end h = rw (drop_of_length-le bs h) (fill_end out i (omega arith))

-- ---- places
pub length-masks : (f bs acts : List ℕ) → length bs ≡ length acts → length (masks f bs acts) ≡ length acts
length-masks f [] acts e = e
length-masks f (b ∷ bs) [] e = absurd (omega arith)
length-masks f (b ∷ bs) (a ∷ acts) e = ap suc (length-masks f bs acts (omega arith))

pub masks-at :
    (f bs acts : List ℕ) (k : ℕ) → k < length bs → k < length acts → get_or (masks f bs acts) k 0 ≡ mask f (get_or bs k 0) (get_or acts k 0)
masks-at f [] acts k h g = absurd (omega arith)
masks-at f (b ∷ bs) [] k h g = absurd (omega arith)
masks-at f (b ∷ bs) (a ∷ acts) zero h g = refl
masks-at f (b ∷ bs) (a ∷ acts) (suc k) h g = masks-at f bs acts k (le_of_suc-le-suc h) (le_of_suc-le-suc g)

-- ---- one answer: that of `mask_of`, and the masks that `setup_masks` leaves
pub mask-once : (f : List ℕ) (b a : ℕ) {r s : ℕ} → r ≡ mask f b a → s ≡ mask f b a → r ≡ s
mask-once f b a p q = p ∙ sym q

pub masks-once : (f bs acts : List ℕ) {l m : List ℕ} → l ≡ masks f bs acts → m ≡ masks f bs acts → l ≡ m
masks-once f bs acts p q = p ∙ sym q
