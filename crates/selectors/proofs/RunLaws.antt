-- Runs of selectors as a relation: `Reaches` from a record to one of its run; `Rests` from the record whose action a place has. Over any test s of
-- places, so that lines with and without selectors are one case (`marked`). `run` finds how far a record reaches (`run-all`, `run-most`),
-- `base` where a place rests (`rests`, `settled-rests`).
-- Assumes nothing.
use mathlib.Core.Path.{◌≡◌, refl, sym, ap, ◌∙◌}
use mathlib.Core.Bool.{Bool, true, false, cond, ◌&&◌, false≢true}
use mathlib.Core.List.{List, [], ◌∷◌}
use mathlib.Core.Logic.{⊎_elim}
use Prim.Native.Nat.{ℕ, zero, suc, ◌<◌, ◌≤◌, zero-le}
use native.Mathlib.Nat.{le_of_suc-le-suc, eq-or-lt_of_le}
use native.Mathlib.Omega.{arith}
use lib.ListN.{length, get_or}
use Rattle.selectors.specs.Selectors.{selector, settled, run, base}
use Rattle.selectors.proofs.SelectorLaws.{settled_at}

-- the record at i takes the action of the one before it: its code is a selector, and the line is Mongolian
abbrev pub marked : Bool → List ℕ → ℕ → Bool
marked mongolian codes i = mongolian && selector (get_or codes i 0)

-- from k to j: each record behind k, up to j, is marked
pub record Reaches (s : ℕ → Bool) (k j : ℕ) : Type 0 where
  pub forward : k ≤ j
  pub all : (i : ℕ) → k < i → i ≤ j → s i ≡ true

-- j has the action of k: k reaches it, and is not marked itself unless it is the first
pub record Rests (s : ℕ → Bool) (k j : ℕ) : Type 0 where
  pub reaches : Reaches s k j
  pub stops : 0 < k → s k ≡ false

-- ---- how far a run goes
pub run-all : (cs : List ℕ) (i : ℕ) → i < run cs → selector (get_or cs i 0) ≡ true
run-all [] i h = absurd (omega arith)
run-all (c ∷ cs) i h = go (selector c) refl i h (run-all cs)
  where
    go :
        (s : Bool) → selector c ≡ s → (i : ℕ) → i < cond s (suc (run cs)) 0 → ((i : ℕ) → i < run cs → selector (get_or cs i 0) ≡ true)
        → selector (get_or (c ∷ cs) i 0) ≡ true
    go true e zero h ih = e
    go true e (suc i) h ih = ih i (le_of_suc-le-suc h)
    go false e i h ih = absurd (omega arith)

pub run-most : (cs : List ℕ) (n : ℕ) → ((i : ℕ) → i < n → selector (get_or cs i 0) ≡ true) → n ≤ run cs
run-most cs zero all = zero-le
run-most [] (suc n) all = absurd (false≢true (all 0 (omega arith)))
run-most (c ∷ cs) (suc n) all = simp (all 0 (omega arith)) (omega (arith, run-most cs n (λ i h. all (suc i) (omega arith))))

-- ---- where a place rests
pub rests : (s : ℕ → Bool) (j : ℕ) → (k : ℕ) × Rests s k j
rests s zero = (0, record { reaches = record { forward = omega arith; all = λ i l h. absurd (omega arith) }; stops = λ l. absurd (omega arith) })
rests s (suc j) = go (s (suc j)) refl (rests s j)
  where
    go : (t : Bool) → s (suc j) ≡ t → ((k : ℕ) × Rests s k j) → (k : ℕ) × Rests s k (suc j)
    go true e (k, r) = (k, record { reaches = record { forward = omega (arith, r.reaches.forward); all = further }; stops = r.stops })
      where
        further : (i : ℕ) → k < i → i ≤ suc j → s i ≡ true
        further i l h = ⊎_elim (λ q. rw q e) (λ m. r.reaches.all i l (le_of_suc-le-suc m)) (eq-or-lt_of_le h)
    go false e (k, r) = (suc j, record { reaches = record { forward = omega arith; all = λ i l h. absurd (omega arith) }; stops = λ l. e })

-- it is the place that `base` gives
base-rests : (cs : List ℕ) (k j : ℕ) → Rests (λ i. selector (get_or cs i 0)) k j → base cs j ≡ k
base-rests cs k zero r = omega (arith, r.reaches.forward)
base-rests cs k (suc j) r = ⊎_elim stop (λ l. on l (base-rests cs k j (before l))) (eq-or-lt_of_le r.reaches.forward)
  where
    before : k < suc j → Rests (λ i. selector (get_or cs i 0)) k j
    before l = record { reaches = record { forward = le_of_suc-le-suc l; all = λ i m h. r.reaches.all i m (omega arith) }; stops = r.stops }

    stop : k ≡ suc j → cond (selector (get_or cs (suc j) 0)) (base cs j) (suc j) ≡ k
    stop q = let e : selector (get_or cs (suc j) 0) ≡ false = rw q at (r.stops (omega arith)) in simp e (sym q)

    on : k < suc j → base cs j ≡ k → cond (selector (get_or cs (suc j) 0)) (base cs j) (suc j) ≡ k
    on l ih = simp (r.reaches.all (suc j) l (omega arith)) ih

-- so the actions of a line, settled if it is Mongolian, are at j what they were where j rests
pub settled-rests :
    (mongolian : Bool) (cs acts : List ℕ) (k j : ℕ) → Rests (marked mongolian cs) k j → j < length acts
    → get_or (cond mongolian (settled cs acts) acts) j 0 ≡ get_or acts k 0
settled-rests true cs acts k j r h = settled_at cs acts j h ∙ ap (λ (i : ℕ). get_or acts i 0) (base-rests cs k j r)
settled-rests false cs acts k j r h = ⊎_elim (λ q. rw q refl) (λ l. absurd (false≢true (r.reaches.all j l (omega arith)))) (eq-or-lt_of_le r.reaches.forward)
