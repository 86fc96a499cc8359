-- Where the sets of a ligature lookup begin, and the sets: a scan takes exactly the offsets that leave room for sets (`spaced`, `Apart`, `Spaced`, `spaced-apart`, `starts-takes`) and exactly the sets that begin there (`Sound`, `Placed`, `grouping`, `settled-grouping`, `grouping-takes`).
-- Assumes nothing.
use mathlib.Core.Path.{◌≡◌, refl, sym, ap, ap₂, ◌∙◌}
use mathlib.Core.Bool.{Bool, true, ◌&&◌}
use mathlib.Core.List.{List, [], ◌∷◌, ◌++◌, map, flatten, append-nil, nil≢cons, head-eq_of_cons-eq, tail-eq_of_cons-eq}
use Prim.Native.Nat.{ℕ, zero, suc, ◌+◌, ◌-◌, ◌*◌, ◌<◌, ◌≤◌}
use native.Mathlib.Omega.{arith}
use borrow.Author.Tests.{eq-eqb, eqb-true, le-leb, leb-true}
use lib.Dec.{eqb, leb, ltb}
use lib.ListN.{length, get_or}
use Rattle.laws.proofs.TestLaws.{both}
use Rattle.layouts.specs.Tables.{Rule, leader, offsets, joined, set_words}
use Rattle.layouts.proofs.SetLaws.{Wide, set-size}
use Rattle.scanning.specs.Scans.{Rest, next}
use Rattle.scanning.specs.Grammar.{set_size, most_rules, is_size_lem, later, starts, grouped, settled}
use Rattle.scanning.proofs.TakeLaws.{Takes, Said, two-takes, said-takes, behind-takes, passed, each-takes}
use Rattle.scanning.proofs.GroupLaws.{Alike, leader-alike}
use Rattle.scanning.proofs.SizeLaws.{size_back, size-once}
use Rattle.scanning.proofs.RuleLaws.{OfSet, set-takes}

-- ---- where sets begin
module _ (n : ℕ) where
  -- an offset behind one at o, with so many to come; and all of them
  abbrev pub spaces : ℕ → ℕ → ℕ → Bool
  spaces left o w = is_size_lem n (w - o) && ltb (w + left * set_size n 1) 65536

  abbrev pub spaced : ℕ → List ℕ → Bool
  spaced o os = passed spaces (λ w. w) o os

  later-takes : (left o : ℕ) → Takes (λ os. (length os ≡ left) × (spaced o os ≡ true)) (λ os. os) (later n left o)
  unfolding later
  later-takes left o = each-takes spaces (λ w. w) (later n) (λ o k. refl) (λ left o k. refl) left o

  -- offsets that leave room for sets
  unfoldable pub Apart : List ℕ → Type 0
  Apart [] = Unit
  Apart (o ∷ os) = spaced o os ≡ true

  -- s offsets, the first behind the coverage
  unfoldable pub Spaced : ℕ → List ℕ → Type 0
  Spaced s [] = Unit
  Spaced s (o ∷ os) = (o ≡ 10 + 4 * s) × (spaced o os ≡ true)

  pub spaced-apart : (s : ℕ) (os : List ℕ) → Spaced s os → Apart os
  unfolding Spaced Apart
  spaced-apart s [] h = tt
  spaced-apart s (o ∷ os) h = h.1

  pub starts-takes : (s : ℕ) → Takes (λ os. (length os ≡ s) × Spaced s os) (λ os. os) (starts n s)
  unfolding starts Spaced
  starts-takes zero = record { on = on; back = λ k ws l e. record { value = []; good = (refl, tt); rest = ws; split = refl; more = e } }
    where
      on : (os : List ℕ) → (length os ≡ zero) × Spaced zero os → (k : List ℕ → Rest) (ws : List ℕ) → k [] (os ++ ws) ≡ k os ws
      on [] h k ws = refl
      on (o ∷ os) h k ws = absurd (omega (arith, h.0))
  starts-takes (suc s) =
      said-takes (behind-takes (o ∷ []) (later-takes s o)) (λ os. o ∷ os) (λ os. (length os ≡ suc s) × Spaced (suc s) os) (λ os. os) to
      (λ os h. ((ap suc h.0, (refl, h.1)), refl))
    where
      o : ℕ
      o = 10 + 4 * suc s

      to : (os : List ℕ) → (length os ≡ suc s) × Spaced (suc s) os → Said (λ os. (length os ≡ s) × (spaced o os ≡ true)) (λ os. (o ∷ []) ++ os) (λ os. o ∷ os) os os
      to [] h = absurd (omega (arith, h.0))
      to (w ∷ os) h =
          let e : o ≡ w = sym h.1.0 in
          record {
            from = os;
            holds = (omega (arith, h.0), rw e h.1.1);
            same = ap (λ (x : ℕ). x ∷ os) e;
            written = ap (λ (x : ℕ). x ∷ os) (sym e);
          }

-- ---- the sets
-- as `settled`, but the sets themselves are handed on
unfoldable pub grouping : ℕ → List ℕ → List ℕ → (List (List Rule) → Rest) → Rest
grouping n [] os k = k []
grouping n (lead ∷ leads) [] k = k []
grouping n (lead ∷ leads) (o ∷ []) k = next (λ c. leb 1 c && leb c (most_rules n)) (λ c. grouped n lead c (λ set. k (set ∷ [])))
grouping n (lead ∷ leads) (o ∷ (p ∷ os)) k =
    next (λ c. eqb (o + set_size n c) p) (λ c. grouped n lead c (λ set. grouping n leads (p ∷ os) (λ sets. k (set ∷ sets))))

pub settled-grouping : (n : ℕ) (leads os : List ℕ) (k : List Rule → Rest) → settled n leads os k ≡ grouping n leads os (λ sets. k (flatten sets))
unfolding settled grouping flatten
settled-grouping n [] os k = refl
settled-grouping n (lead ∷ leads) [] k = refl
settled-grouping n (lead ∷ leads) (o ∷ []) k =
    λ i. next (λ c. leb 1 c && leb c (most_rules n)) (λ c. grouped n lead c (λ set. k (sym (append-nil set) i)))
settled-grouping n (lead ∷ leads) (o ∷ (p ∷ os)) k =
    λ i. next (λ c. eqb (o + set_size n c) p) (λ c. grouped n lead c (λ set. settled-grouping n leads (p ∷ os) (λ sets. k (set ++ sets)) i))

module _ (n : ℕ) where
  -- sets that have a rule and no more than fit, of n components, that begin alike
  unfoldable pub Sound : List (List Rule) → Type 0
  Sound [] = Unit
  Sound (set ∷ others) = (1 ≤ length set) × (length set ≤ most_rules n) × Wide n set × Alike (leader set) set × Sound others

  -- they begin with these glyphs and at these offsets
  pub record Placed (leads os : List ℕ) (groups : List (List Rule)) : Type 0 where
    pub sound : Sound groups
    pub heads : leads ≡ map leader groups
    pub begins : os ≡ offsets (get_or os 0 0) (map (set_words n) groups)

-- the first of some offsets
offsets-first : (o p : ℕ) (os : List ℕ) (blocks : List (List ℕ)) → p ∷ os ≡ offsets o blocks → p ≡ o
unfolding offsets
offsets-first o p os [] e = absurd (nil≢cons (sym e))
offsets-first o p os (block ∷ blocks) e = head-eq_of_cons-eq e

module _ (n : ℕ) (low : 0 < n) where
  abbrev blocks_of : List (List Rule) → List ℕ
  blocks_of groups = joined (map (set_words n) groups)

  -- the last set: any count that fits
  abbrev counts : ℕ → Bool
  counts c = leb 1 c && leb c (most_rules n)

  last-takes : (lead o : ℕ) → Takes (Placed n (lead ∷ []) (o ∷ [])) blocks_of (λ k. next counts (λ c. grouped n lead c (λ set. k (set ∷ []))))
  unfolding Sound Alike joined offsets
  last-takes lead o = said-takes (set-takes n low lead counts) (λ set. set ∷ []) (Placed n (lead ∷ []) (o ∷ [])) blocks_of to of
    where
      to : (gs : List (List Rule)) → Placed n (lead ∷ []) (o ∷ []) gs → Said (OfSet n low lead counts) (set_words n) (λ set. set ∷ []) gs (blocks_of gs)
      to [] h = absurd (nil≢cons (sym h.heads))
      to (g ∷ []) h =
          let s = h.sound in
          record {
            from = g;
            holds = (rw (le-leb 1 (length g) s.0) (le-leb (length g) (most_rules n) s.1), s.2, rw (head-eq_of_cons-eq h.heads) s.3);
            same = refl;
            written = append-nil (set_words n g);
          }
      to (g ∷ f ∷ gs) h = absurd (nil≢cons (tail-eq_of_cons-eq h.heads))

      of : (g : List Rule) → OfSet n low lead counts g → Placed n (lead ∷ []) (o ∷ []) (g ∷ []) × (set_words n g ≡ blocks_of (g ∷ []))
      of g h =
          let b = both (leb 1 (length g)) (leb (length g) (most_rules n)) h.0 in
          let one = leb-true 1 (length g) b.0 in
          let e = leader-alike lead g one h.2 in (
            record {
              sound = (one, leb-true (length g) (most_rules n) b.1, h.1, rw e h.2, tt);
              heads = ap (λ (x : ℕ). x ∷ []) (sym e);
              begins = refl;
            },
            sym (append-nil (set_words n g)),
          )

  -- another set: as many rules as there is room before the next
  abbrev reaches : ℕ → ℕ → ℕ → Bool
  reaches o p c = eqb (o + set_size n c) p

  pub grouping-takes : (leads os : List ℕ) → length leads ≡ length os → Apart n os → Takes (Placed n leads os) blocks_of (grouping n leads os)
  unfolding grouping Sound Alike joined offsets Apart passed
  grouping-takes [] [] e s = record { on = on; back = λ k ws l e. record { value = []; good = record { sound = tt; heads = refl; begins = refl }; rest = ws; split = refl; more = e } }
    where
      on : (gs : List (List Rule)) → Placed n [] [] gs → (k : List (List Rule) → Rest) (ws : List ℕ) → k [] (blocks_of gs ++ ws) ≡ k gs ws
      on [] h k ws = refl
      on (g ∷ gs) h k ws = absurd (nil≢cons h.heads)
  grouping-takes [] (o ∷ os) e s = absurd (omega arith)
  grouping-takes (lead ∷ leads) [] e s = absurd (omega arith)
  grouping-takes (lead ∷ []) (o ∷ []) e s = last-takes lead o
  grouping-takes (lead ∷ (m ∷ leads)) (o ∷ []) e s = absurd (omega arith)
  grouping-takes (lead ∷ leads) (o ∷ (p ∷ os)) e s =
      said-takes (two-takes (set-takes n low lead (reaches o p)) (λ set h. grouping-takes leads (p ∷ os) (omega arith) (both (spaces n (length os) o p) (spaced n p os) s).1)) (λ q. q.0 ∷ q.1)
      (Placed n (lead ∷ leads) (o ∷ (p ∷ os))) blocks_of to of
    where
      to : (gs : List (List Rule)) → Placed n (lead ∷ leads) (o ∷ (p ∷ os)) gs
          → Said {A = List Rule × List (List Rule)} (λ q. OfSet n low lead (reaches o p) q.0 × Placed n leads (p ∷ os) q.1) (λ q. set_words n q.0 ++ blocks_of q.1) (λ q. q.0 ∷ q.1) gs (blocks_of gs)
      to [] h = absurd (nil≢cons (sym h.heads))
      to (g ∷ gs) h =
          let s = h.sound in
          let t = tail-eq_of_cons-eq h.begins in
          let f = offsets-first (o + 2 * length (set_words n g)) p os (map (set_words n) gs) t in
          record {
            from = (g, gs);
            holds = (
              (eq-eqb (o + set_size n (length g)) p (sym (f ∙ ap (λ (x : ℕ). o + x) (set-size n low g s.2))), s.2, rw (head-eq_of_cons-eq h.heads) s.3),
              record { sound = s.4; heads = tail-eq_of_cons-eq h.heads; begins = rw (← f) at t },
            );
            same = refl;
            written = refl;
          }

      of : (q : List Rule × List (List Rule)) → OfSet n low lead (reaches o p) q.0 × Placed n leads (p ∷ os) q.1
          → Placed n (lead ∷ leads) (o ∷ (p ∷ os)) (q.0 ∷ q.1) × (set_words n q.0 ++ blocks_of q.1 ≡ blocks_of (q.0 ∷ q.1))
      of q h =
          let g = q.0 in
          let reach = eqb-true (o + set_size n (length g)) p h.0.0 in
          let sized = size_back n (p - o) (both (is_size_lem n (p - o)) (ltb (p + length os * set_size n 1) 65536) (both (spaces n (length os) o p) (spaced n p os) s).0).0 in
          let many = size-once n sized.rules (length g) (sized.size ∙ less (set_size n (length g)) reach) in
          let one = rw many at sized.some in
          let lead_is = leader-alike lead g one h.0.2 in (
            record {
              sound = (one, rw many at sized.few, h.0.1, rw lead_is h.0.2, h.1.sound);
              heads = ap₂ (λ (x : ℕ) (xs : List ℕ). x ∷ xs) (sym lead_is) h.1.heads;
              begins =
                  ap (λ (xs : List ℕ). o ∷ xs) (h.1.begins ∙ ap (λ (x : ℕ). offsets x (map (set_words n) q.1)) (sym (ap (λ (x : ℕ). o + x) (set-size n low g h.0.1) ∙ reach)));
            },
            refl,
          )
        where
          less : (x : ℕ) → o + x ≡ p → p - o ≡ x
          less x e = omega arith
