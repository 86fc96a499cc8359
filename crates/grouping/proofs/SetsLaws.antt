-- Sets, by the next of them: its count (`has_last`, `has-next`, `sets-short`, `sets-wrong`), what stands behind the count (`sets-stops`, `sets_more`), and the end (`sets-none`).
-- Assumes nothing.
use mathlib.Core.Path.{◌≡◌, refl, sym, ap, subst, ◌∙◌}
use mathlib.Core.Bool.{true, false, ◌&&◌}
use mathlib.Core.List.{List, [], ◌∷◌, ◌++◌, append-nil}
use Prim.Native.Nat.{ℕ, zero, suc, ◌+◌, ◌*◌, ◌≤◌, ◌<◌}
use native.Mathlib.Omega.{arith}
use borrow.Author.Tests.{eqb-true}
use lib.Dec.{eqb, leb}
use lib.ListN.{length}
use Rattle.words.specs.Words.{word_at, words_at}
use Rattle.words.proofs.WordLaws.{words-next, words-none, length-words}
use Rattle.layouts.specs.Tables.{Rule}
use Rattle.scanning.specs.Scans.{Rest}
use Rattle.scanning.specs.Grammar.{set_size, most_rules, grouped, settled}
use Rattle.std.specs.Prelude.{Ok, Err}
use Rattle.accepting.specs.declared.Fault.{Fault}
use Rattle.accepting.specs.declared.Fault.TheVariants.{Wrong, Short}
use Rattle.accepting.specs.Scanned.{Scanned, after, Took}
use Rattle.accepting.proofs.TookLaws.{took_else, took_then, took_none, took_map, one-short, one-wrong, one_right}
use Rattle.grouping.specs.Grouped.{rules_at, starts_at, sets_at, may_have_lem}

-- ---- the count
pub has_last : (n o : ℕ) (b : List ℕ) (at left c : ℕ) → left ≡ 0 → (leb 1 c && leb c (most_rules n)) ≡ may_have_lem n o (words_at b at left) c
unfolding may_have_lem
has_last n o b at left c z = rw (words-none b at left z)

pub has-next : (n o : ℕ) (b : List ℕ) (at left c : ℕ) → 0 < left → (w : ℕ) → w ≡ word_at b at → eqb (o + set_size n c) w ≡ may_have_lem n o (words_at b at left) c
unfolding may_have_lem
has-next n o b at left c h w e = rw (words-next b at left h, e)

-- ---- a set and those behind it
-- what follows the count c of a set, by where the others begin
abbrev behind : ℕ → ℕ → List ℕ → List ℕ → ℕ → (List Rule → Rest) → Rest
behind n lead leads [] c k = grouped n lead c k
behind n lead leads (p ∷ os) c k = grouped n lead c (λ set. settled n leads (p ∷ os) (λ sets. k (set ++ sets)))

module _ (n o lead : ℕ) (leads : List ℕ) (b : List ℕ) (p : ℕ) where
  pub sets-short : (os : List ℕ) {value : List Rule} {end : ℕ} → length b < p + 2 → Took (settled n (lead ∷ leads) (o ∷ os)) value end b p (Err Short)
  unfolding settled
  sets-short [] h = one-short _ (behind n lead leads []) b p h
  sets-short (x ∷ os) h = one-short _ (behind n lead leads (x ∷ os)) b p h

  module _ (h : p + 2 ≤ length b) where
    pub sets-wrong : (os : List ℕ) {value : List Rule} {end : ℕ} → may_have_lem n o os (word_at b p) ≡ false → Took (settled n (lead ∷ leads) (o ∷ os)) value end b p (Err (Wrong p))
    unfolding settled may_have_lem
    sets-wrong [] t = one-wrong _ (behind n lead leads []) b p h t
    sets-wrong (x ∷ os) t = one-wrong _ (behind n lead leads (x ∷ os)) b p h t

    counted : (os : List ℕ) {value : List Rule} {end : ℕ} → may_have_lem n o os (word_at b p) ≡ true → (r : Scanned) → Took (behind n lead leads os (word_at b p)) value end b (p + 2) r → Took (settled n (lead ∷ leads) (o ∷ os)) value end b p r
    unfolding settled may_have_lem
    counted [] t r u = one_right _ (behind n lead leads []) b p h t r u
    counted (x ∷ os) t r u = one_right _ (behind n lead leads (x ∷ os)) b p h t r u

-- ---- what stands behind the count
module _ (n lead : ℕ) (leads : List ℕ) (b : List ℕ) (p c : ℕ) where
  abbrev rest_of : List ℕ → List Rule → (List Rule → Rest) → Rest
  rest_of os set k = settled n leads os (λ sets. k (set ++ sets))

  pub stops-behind : (os : List ℕ) {first : List Rule} {e : ℕ} (value : List Rule) (end : ℕ) (f : Fault) → Took (grouped n lead c) first e b p (Err f) → Took (behind n lead leads os c) value end b p (Err f)
  stops-behind [] value end f t = took_else (grouped n lead c) (λ set k. k set) value end f t
  stops-behind (x ∷ os) value end f t = took_else (grouped n lead c) (rest_of (x ∷ os)) value end f t

  -- the last set
  last-behind :
      leads ≡ [] → {first : List Rule} {e end : ℕ} (q : ℕ) → Took (grouped n lead c) first e b p (Ok q)
      → (r : Scanned) → Took (settled n leads []) (sets_at n leads b q) end b q r → Took (behind n lead leads [] c) (first ++ sets_at n leads b q) end b p r
  unfolding settled sets_at after
  last-behind none {first} q t r u =
      rw none
      (record {
        goes = λ k. t.goes k ∙ (rw none at u).goes (λ _. k first) ∙ ap (λ (v : List Rule). after r b (k v)) (sym (append-nil first));
        place = u.place;
      })

  -- a set with others behind it
  next-behind :
      (x : ℕ) (os : List ℕ) {first : List Rule} {e end : ℕ} (q : ℕ) → Took (grouped n lead c) first e b p (Ok q)
      → (r : Scanned) → Took (settled n leads (x ∷ os)) (sets_at n leads b q) end b q r → Took (behind n lead leads (x ∷ os) c) (first ++ sets_at n leads b q) end b p r
  next-behind x os {first} q t r u =
      took_then (grouped n lead c) (rest_of (x ∷ os)) q t r (took_map (settled n leads (x ∷ os)) (λ sets. first ++ sets) u)

  -- either, by where the others begin
  pub more-behind :
      (o m at : ℕ) → length leads ≡ m → may_have_lem n o (words_at b at m) c ≡ true → {first : List Rule} {e end : ℕ} (q : ℕ) → Took (grouped n lead c) first e b p (Ok q)
      → (r : Scanned) → Took (settled n leads (starts_at (o + set_size n c) m b (at + 2))) (sets_at n leads b q) end b q r
      → Took (behind n lead leads (words_at b at m) c) (first ++ sets_at n leads b q) end b p r
  unfolding starts_at words_at may_have_lem
  more-behind o zero at z test {first} {e} {end} q t r u = last-behind (none leads z) q t r u
    where
      none : (l : List ℕ) → length l ≡ 0 → l ≡ []
      none [] e = refl
      none (x ∷ l) e = absurd (omega arith)
  more-behind o (suc m) at z test {first} {e} {end} q t r u =
      next-behind (word_at b at) (words_at b (at + 2) m) q t r
      (subst (λ (x : ℕ). Took (settled n leads (x ∷ words_at b (at + 2) m)) (sets_at n leads b q) end b q r) (eqb-true (o + set_size n c) (word_at b at) test) u)

-- ---- a turn
module _ (n o : ℕ) (b : List ℕ) (lp at p m : ℕ) where
  abbrev here : List ℕ
  here = words_at b lp (m + 1)

  abbrev begins : List ℕ
  begins = starts_at o (m + 1) b at

  -- the next lead and offset, and the others
  spread : {value : List Rule} {end : ℕ} {r : Scanned} → Took (settled n (word_at b lp ∷ words_at b (lp + 2) m) (o ∷ words_at b at m)) value end b p r → Took (settled n here begins) value end b p r
  unfolding starts_at words_at
  spread t = let one : m + 1 ≡ suc m = omega arith in rw one t

  pub sets_too_short : {value : List Rule} {end : ℕ} → length b < p + 2 → Took (settled n here begins) value end b p (Err Short)
  sets_too_short h = spread (sets-short n o (word_at b lp) (words_at b (lp + 2) m) b p (words_at b at m) h)

  module _ (h : p + 2 ≤ length b) where
    pub sets_miscounted : {value : List Rule} {end : ℕ} → may_have_lem n o (words_at b at m) (word_at b p) ≡ false → Took (settled n here begins) value end b p (Err (Wrong p))
    sets_miscounted t = spread (sets-wrong n o (word_at b lp) (words_at b (lp + 2) m) b p h (words_at b at m) t)

    module _ (test : may_have_lem n o (words_at b at m) (word_at b p) ≡ true) where
      pub sets-stops :
          {first : List Rule} {e : ℕ} (value : List Rule) (end : ℕ) (f : Fault) → Took (grouped n (word_at b lp) (word_at b p)) first e b (p + 2) (Err f)
          → Took (settled n here begins) value end b p (Err f)
      sets-stops value end f t =
          spread (counted n o (word_at b lp) (words_at b (lp + 2) m) b p h (words_at b at m) test (Err f) (stops-behind n (word_at b lp) (words_at b (lp + 2) m) b (p + 2) (word_at b p) (words_at b at m) value end f t))

      pub sets_more :
          {end : ℕ} (q : ℕ)
          → Took (grouped n (word_at b lp) (word_at b p)) (rules_at n (word_at b lp) (word_at b p) b (p + 2 + 2 * word_at b p)) (p + 2 + word_at b p * (4 + 2 * n)) b (p + 2) (Ok q)
          → (r : Scanned) → Took (settled n (words_at b (lp + 2) m) (starts_at (o + set_size n (word_at b p)) m b (at + 2))) (sets_at n (words_at b (lp + 2) m) b q) end b q r
          → Took (settled n here begins) (sets_at n here b p) end b p r
      unfolding words_at sets_at
      sets_more q t r u =
          let one : m + 1 ≡ suc m = omega arith in
          let ends : q ≡ p + set_size n (word_at b p) = t.place.0 ∙ omega arith in
          spread
          (rw (one, ← ends)
          (counted n o (word_at b lp) (words_at b (lp + 2) m) b p h (words_at b at m) test r
          (more-behind n (word_at b lp) (words_at b (lp + 2) m) b (p + 2) (word_at b p) o m at (length-words b (lp + 2) m) test q t r u)))

pub sets-none : (n o : ℕ) (b : List ℕ) (lp at p : ℕ) {end : ℕ} → p ≡ end → p ≤ length b → Took (settled n (words_at b lp 0) (starts_at o 0 b at)) (sets_at n (words_at b lp 0) b p) end b p (Ok p)
unfolding settled starts_at words_at sets_at
sets-none n o b lp at p e h = took_none b p e h
