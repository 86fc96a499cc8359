-- Where the sets of a ligature lookup begin, by the next offset: what a set's size is (`size_small`, `size_is`); offsets behind another (`later-short`, `later-low`, `later-wrong`, `later_more`, `later-none`); all of them (`starts_none`, `starts-stops`, `starts_taken`).
-- Assumes nothing.
use mathlib.Core.Path.{◌≡◌, ap, ◌∙◌}
use mathlib.Core.Bool.{Bool, true, false, ◌&&◌}
use mathlib.Core.List.{List, [], ◌∷◌}
use Prim.Native.Nat.{ℕ, zero, suc, ◌+◌, ◌-◌, ◌*◌, ◌/◌, ◌≤◌, ◌<◌}
use native.Mathlib.Nat.{le-div_iff_mul-le, div-mul-le_self, mul-le-mul_left}
use native.Mathlib.Omega.{arith}
use borrow.Author.Tests.{ne_eqb, le-leb}
use lib.Dec.{eqb, leb, ltb}
use lib.ListN.{length}
use Rattle.laws.proofs.TestLaws.{and_true}
use Rattle.words.specs.Words.{word_at, words_at}
use Rattle.scanning.specs.Scans.{Rest}
use Rattle.scanning.specs.Grammar.{set_size, most_rules, is_size_lem, later, starts}
use Rattle.std.specs.Prelude.{Ok, Err}
use Rattle.accepting.specs.declared.Fault.{Fault}
use Rattle.accepting.specs.declared.Fault.TheVariants.{Wrong, Short}
use Rattle.accepting.specs.Scanned.{Scanned, Took, these}
use Rattle.accepting.proofs.TookLaws.{took_else, took_then, took_end, took_none, took_map, one-short, one-wrong, one_right}
use Rattle.grouping.specs.Grouped.{starts_at}

-- ---- a set's size
-- no set has fewer than two bytes
pub size_small : (n x : ℕ) → x < 2 → is_size_lem n x ≡ false
size_small n x h = rw (ne_eqb (set_size n ((x - 2) / (4 + 2 * n))) x (λ e. omega (arith, e)))

-- of a size of 16 bits the limit of a set's rules need not be asked
pub size_is : (n x : ℕ) → x < 65536 → (eqb (set_size n ((x - 2) / (4 + 2 * n))) x && leb 1 ((x - 2) / (4 + 2 * n))) ≡ is_size_lem n x
size_is n x h =
    let q : ℕ = (x - 2) / (4 + 2 * n) in
    let few : q ≤ most_rules n = (le-div_iff_mul-le {k = 4 + 2 * n} (omega arith)).1 (omega (arith, div-mul-le_self (x - 2) (4 + 2 * n))) in
    rw (le-leb q (most_rules n) few, and_true)

-- ---- offsets behind one at o
-- whether w can stand before `left` others, of which each has 6 + 2 n bytes at least
abbrev pub stands : ℕ → ℕ → ℕ → ℕ → Bool
stands n o left w = is_size_lem n (w - o) && ltb (w + left * (6 + 2 * n)) 65536

abbrev test : ℕ → ℕ → ℕ → ℕ → Bool
test n o left w = is_size_lem n (w - o) && ltb (w + left * set_size n 1) 65536

same_test : (n o left w : ℕ) → test n o left w ≡ stands n o left w
same_test n o left w = ap (λ (size : ℕ). is_size_lem n (w - o) && ltb (w + left * size) 65536) (smallest n)
  where
    smallest : (n : ℕ) → set_size n 1 ≡ 6 + 2 * n
    smallest n = omega arith

abbrev others : ℕ → ℕ → ℕ → (List ℕ → Rest) → Rest
others n left w k = later n left w (λ os. k (w ∷ os))

-- the room that others ask for is small
pub room_fits : (n left : ℕ) → n ≤ 3 → left < 65536 → left * (6 + 2 * n) ≤ 786432
room_fits n left h l = omega (arith, mul-le-mul_left left (twelve n h))
  where
    twelve : (n : ℕ) → n ≤ 3 → 6 + 2 * n ≤ 12
    twelve n h = omega arith

module _ (n o : ℕ) (b : List ℕ) (p : ℕ) where
  pub later-short : (left : ℕ) {value : List ℕ} {end : ℕ} → 0 < left → length b < p + 2 → Took (later n left o) value end b p (Err Short)
  unfolding later
  later-short zero h s = absurd (omega arith)
  later-short (suc left) h s = one-short (test n o left) (others n left) b p s

  module _ (left : ℕ) (h : p + 2 ≤ length b) where
    pub later-wrong : {value : List ℕ} {end : ℕ} → stands n o left (word_at b p) ≡ false → Took (later n (left + 1) o) value end b p (Err (Wrong p))
    unfolding later
    later-wrong t = let one : left + 1 ≡ suc left = omega arith in rw one (one-wrong (test n o left) (others n left) b p h (same_test n o left (word_at b p) ∙ t))

    pub later-low : {value : List ℕ} {end : ℕ} → word_at b p < o → Took (later n (left + 1) o) value end b p (Err (Wrong p))
    later-low l = later-wrong (rw (size_small n (word_at b p - o) (omega arith)))

    pub later_more :
        {end : ℕ} → stands n o left (word_at b p) ≡ true → (r : Scanned) → Took (later n left (word_at b p)) (words_at b (p + 2) left) end b (p + 2) r
        → Took (later n (left + 1) o) (words_at b p (left + 1)) end b p r
    unfolding later words_at
    later_more t r u = let one : left + 1 ≡ suc left = omega arith in rw one (one_right (test n o left) (others n left) b p h (same_test n o left (word_at b p) ∙ t) r (took_map (later n left (word_at b p)) (λ os. word_at b p ∷ os) u))

  pub later-none : {end : ℕ} → p ≡ end → p ≤ length b → Took (later n 0 o) (words_at b p 0) end b p (Ok p)
  unfolding later words_at
  later-none e h = took_none b p e h

-- ---- all of them
module _ (n : ℕ) (b : List ℕ) (at : ℕ) where
  pub starts_none : (s : ℕ) → s ≡ 0 → at ≤ length b → Took (starts n s) (starts_at (10 + 4 * s) s b (at + 2)) (at + 2 * s) b at (Ok at)
  unfolding starts starts_at
  starts_none s z h = rw z (took_none b at (omega arith) h)

  abbrev behind_first : ℕ → Unit {0} → (List ℕ → Rest) → Rest
  behind_first s u k = later n s (10 + 4 * suc s) (λ os. k ((10 + 4 * suc s) ∷ os))

  pub starts-stops : (s : ℕ) → 0 < s → (f : Fault) → Took (these ((10 + 4 * s) ∷ [])) tt (at + 2 * 1) b at (Err f) → Took (starts n s) (starts_at (10 + 4 * s) s b (at + 2)) (at + 2 * s) b at (Err f)
  unfolding starts
  starts-stops zero h f t = absurd (omega arith)
  starts-stops (suc s) h f t = took_else (these ((10 + 4 * suc s) ∷ [])) (behind_first s) _ _ f t

  pub starts_taken :
      (s : ℕ) → 0 < s → (p : ℕ) → Took (these ((10 + 4 * s) ∷ [])) tt (at + 2 * 1) b at (Ok p)
      → (r : Scanned) → Took (later n (s - 1) (10 + 4 * s)) (words_at b p (s - 1)) (p + 2 * (s - 1)) b p r → Took (starts n s) (starts_at (10 + 4 * s) s b (at + 2)) (at + 2 * s) b at r
  unfolding starts starts_at
  starts_taken zero h p t r u = absurd (omega arith)
  starts_taken (suc s) h p t r u =
      let two : p ≡ at + 2 = t.place.0 in
      let less : suc s - 1 ≡ s = omega arith in
      let end : p + 2 * s ≡ at + 2 * suc s = omega (arith, two) in
      took_then (these ((10 + 4 * suc s) ∷ [])) (behind_first s) p t r
      (rw (← two) (took_end end (took_map (later n s (10 + 4 * suc s)) (λ os. (10 + 4 * suc s) ∷ os) (rw less at u))))
