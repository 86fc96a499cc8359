-- Laws of the letters beside a place, over any list of types: a letter further on each side (`nearest-here`, `latest-here`, `place_before-here`,
-- `place_of-here`); and that nothing but transparent letters stands between a place and the letter beside it, so that
-- seen from that letter the next one is the same (`letter_across`, `letter-back`).
-- Assumes nothing.
use mathlib.Core.Path.{◌≡◌, refl, sym, ap, ◌∙◌}
use mathlib.Core.Bool.{Bool, true, false, cond}
use mathlib.Core.List.{List, [], ◌∷◌}
use Prim.Native.Nat.{ℕ, zero, suc, ◌+◌, ◌<◌}
use native.Mathlib.Nat.{add-zero, zero-add, suc-add}
use native.Mathlib.Numerals.{add-one}
use native.Mathlib.Omega.{arith}
use lib.Dec.{eqb}
use lib.ListN.{length, get_or, take, drop}
use lib.Seq.{take-suc}
use Rattle.laws.proofs.LoopLaws.{drop-next}
use Rattle.letters.specs.Types.{T}
use Rattle.shapes.specs.Joining.{passed, latest, nearest}
use Rattle.shapes.specs.Places.{place_before, place_of}
use Rattle.shapes.proofs.LocalityLaws.{latest-append}
use Rattle.neighbours.specs.declared.Neighbour.{Neighbour}
use Rattle.neighbours.specs.Beside.{StandsBefore, StandsFrom}

-- ---- a letter further
module _ (ts : List ℕ) (p : ℕ) where
  pub place_before-here : place_before ts (p + 1) ≡ cond (eqb (get_or ts p 0) T) (place_before ts p) p
  place_before-here = rw add-one refl

  module _ (h : p < length ts) where
    pub nearest-here : (a : ℕ) → nearest (drop p ts) a ≡ cond (eqb (get_or ts p 0) T) (nearest (drop (p + 1) ts) a) (get_or ts p 0)
    nearest-here a = ap (λ (l : List ℕ). nearest l a) (drop-next ts p 0 h)

    pub latest-here : (b : ℕ) → latest b (take (p + 1) ts) ≡ passed (latest b (take p ts)) (get_or ts p 0)
    latest-here b = rw (add-one, take-suc ts p 0 h) (latest-append b (take p ts) (get_or ts p 0 ∷ []))

    pub place_of-here : p + place_of (drop p ts) ≡ cond (eqb (get_or ts p 0) T) (p + 1 + place_of (drop (p + 1) ts)) p
    place_of-here = ap (λ (l : List ℕ). p + place_of l) (drop-next ts p 0 h) ∙ go (eqb (get_or ts p 0) T)
      where
        go : (s : Bool) → p + cond s (suc (place_of (drop (p + 1) ts))) 0 ≡ cond s (p + 1 + place_of (drop (p + 1) ts)) p
        go true = omega arith
        go false = add-zero p

-- ---- what stands between
nearest-skips : (ts : List ℕ) (k a : ℕ) → eqb (get_or ts k 0) T ≡ true → nearest (drop k ts) a ≡ nearest (drop (suc k) ts) a
nearest-skips [] zero a e = refl
nearest-skips [] (suc k) a e = refl
nearest-skips (t ∷ ts) zero a e = simp e
nearest-skips (t ∷ ts) (suc k) a e = nearest-skips ts k a e

-- only transparent letters stand between q and p
pub letter_across :
    (ts : List ℕ) (p q a : ℕ) → q ≡ place_before ts p → q < length ts → nearest (drop (q + 1) ts) a ≡ nearest (drop p ts) a
letter_across ts zero q a e h = absurd (omega arith)
letter_across ts (suc k) q a e h = go (eqb (get_or ts k 0) T) refl e (λ d. letter_across ts k q a d h)
  where
    go :
        (s : Bool) → eqb (get_or ts k 0) T ≡ s → q ≡ cond s (place_before ts k) k → (q ≡ place_before ts k → nearest (drop (q + 1) ts) a ≡ nearest (drop k ts) a)
        → nearest (drop (q + 1) ts) a ≡ nearest (drop (suc k) ts) a
    go true t e ih = ih e ∙ nearest-skips ts k a t
    go false t e ih = rw (e, add-one)

-- nor any other between a place and the letter from there on
latest-place_of : (ts : List ℕ) (b : ℕ) → latest b (take (place_of ts) ts) ≡ b
latest-place_of [] b = refl
latest-place_of (t ∷ ts) b = go (eqb t T) refl (latest-place_of ts b)
  where
    go : (s : Bool) → eqb t T ≡ s → latest b (take (place_of ts) ts) ≡ b → latest b (take (cond s (suc (place_of ts)) 0) (t ∷ ts)) ≡ b
    go true e ih = ap (λ (s : Bool). latest (cond s b t) (take (place_of ts) ts)) e ∙ ih
    go false e ih = refl

latest_place_from : (ts : List ℕ) (k b : ℕ) → latest b (take (k + place_of (drop k ts)) ts) ≡ latest b (take k ts)
latest_place_from ts zero b = ap (λ (m : ℕ). latest b (take m ts)) (zero-add (place_of ts)) ∙ latest-place_of ts b
latest_place_from [] (suc k) b = ap (λ (m : ℕ). latest b (take m [])) (suc-add k 0)
latest_place_from (t ∷ ts) (suc k) b =
    ap (λ (m : ℕ). latest b (take m (t ∷ ts))) (suc-add k (place_of (drop k ts))) ∙ latest_place_from ts k (passed b t)

pub letter-back : (ts : List ℕ) (p n b : ℕ) → n ≡ p + 1 + place_of (drop (p + 1) ts) → latest b (take n ts) ≡ latest b (take (p + 1) ts)
letter-back ts p n b e = ap (λ (m : ℕ). latest b (take m ts)) e ∙ latest_place_from ts (p + 1) b

-- ---- one answer: that of `letter_before`, and that of `letter_from`
neighbour_equal : (r s : Neighbour) → r.place ≡ s.place → r.letter.0 ≡ s.letter.0 → r ≡ s
neighbour_equal r s p l =
    ap (λ (k : ℕ). record { place = k; letter = r.letter }) p ∙ ap (λ (t : ℕ). record { place = s.place; letter = record { 0 = t } }) l

module _ (ts : List ℕ) (k outer : ℕ) {r s : Neighbour} where
  pub before-once : StandsBefore ts k outer r → StandsBefore ts k outer s → r ≡ s
  before-once f g = neighbour_equal r s (f.place ∙ sym g.place) (f.letter ∙ sym g.letter)

  pub from-once : StandsFrom ts k outer r → StandsFrom ts k outer s → r ≡ s
  from-once f g = neighbour_equal r s (f.place ∙ sym g.place) (f.letter ∙ sym g.letter)
