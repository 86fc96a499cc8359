-- Parts made of parts, one taken behind the other: the head of a lookup (`headed-stops`, `headed-flags`, `headed_taken`), a coverage (`covered-stops`, `covered_taken`), the count and the offset that it says (`counted-short`, `counted_odd`, `counted-many`, `counted_taken`, `counts-known`).
-- Assumes nothing.
use mathlib.Core.Path.{◌≡◌, refl}
use mathlib.Core.Bool.{Bool, true, false, not, ◌&&◌, ◌||◌, false≢true}
use mathlib.Core.List.{List, [], ◌∷◌}
use Prim.Native.Nat.{ℕ, ◌+◌, ◌-◌, ◌*◌, ◌/◌, ◌%◌, ◌≤◌, ◌<◌}
use native.Mathlib.Omega.{arith}
use borrow.Author.Tests.{not-false, eq-eqb, ne_eqb, eqb-true, eqb-false, le-leb, lt-leb, ltb-true, ltb-false}
use lib.Dec.{eqb, leb, ltb}
use lib.ListN.{length, get_or}
use Rattle.laws.proofs.TestLaws.{neither, and_false}
use Rattle.words.specs.Words.{word_at, words_at}
use Rattle.scanning.specs.Scans.{Rest, next, any, exactly, several, rise}
use Rattle.scanning.specs.Grammar.{headed, counted, covered}
use Rattle.std.specs.Prelude.{Ok, Err}
use Rattle.accepting.specs.declared.Fault.{Fault}
use Rattle.accepting.specs.declared.Fault.TheVariants.{Wrong, Short}
use Rattle.accepting.specs.Scanned.{Scanned, Took, these, Counts}
use Rattle.accepting.proofs.TookLaws.{took_else, took_then, took_these, took_end, one-short, one-wrong, one_right}

-- ---- the head of a lookup
module _ (kind : ℕ) (b : List ℕ) where
  -- what stands behind the type, and behind the flags
  abbrev behind_kind : Unit {0} → (ℕ → Rest) → Rest
  behind_kind u k = next any (λ flags. exactly (1 ∷ 8 ∷ []) (k flags))

  abbrev behind_flags : List ℕ → (ℕ → Rest) → Rest
  behind_flags ws k = exactly (1 ∷ 8 ∷ []) (k (get_or ws 0 0))

  pub headed-stops : (f : Fault) → Took (these (kind ∷ [])) tt 2 b 0 (Err f) → Took (headed kind) (word_at b 2) 8 b 0 (Err f)
  headed-stops f t = took_else (these (kind ∷ [])) behind_kind _ 8 f t

  module _ (p : ℕ) (t : Took (these (kind ∷ [])) tt 2 b 0 (Ok p)) where
    pub headed-flags : (f : Fault) → Took (several 1) (words_at b p 1) (p + 2 * 1) b p (Err f) → Took (headed kind) (word_at b 2) 8 b 0 (Err f)
    unfolding several
    headed-flags f u = took_then (these (kind ∷ [])) behind_kind p t (Err f) (took_else (several 1) behind_flags _ 8 f u)

    pub headed_taken :
        (q : ℕ) → Took (several 1) (words_at b p 1) (p + 2 * 1) b p (Ok q) → (r : Scanned) → Took (these (1 ∷ 8 ∷ [])) tt (q + 2 * 2) b q r
        → Took (headed kind) (word_at b 2) 8 b 0 r
    unfolding several words_at
    headed_taken q u r v =
        let two : p ≡ 2 = t.place.0 in
        let four : q + 2 * 2 ≡ 8 = omega (arith, u.place.0) in
        took_then (these (kind ∷ [])) behind_kind p t r
        (rw two (took_then (several 1) behind_flags q (rw two at u) r (took_end four (took_these (1 ∷ 8 ∷ []) (word_at b 2) v))))

-- ---- a coverage
module _ (apart n : ℕ) (b : List ℕ) (at : ℕ) where
  abbrev glyphs_behind : Unit {0} → (List ℕ → Rest) → Rest
  glyphs_behind u k = rise apart n 0 k

  pub covered-stops : (f : Fault) → Took (these (1 ∷ n ∷ [])) tt (at + 2 * 2) b at (Err f) → Took (covered apart n) (words_at b (at + 4) n) (at + 4 + 2 * n) b at (Err f)
  covered-stops f t = took_else (these (1 ∷ n ∷ [])) glyphs_behind _ _ f t

  pub covered_taken :
      (p : ℕ) → Took (these (1 ∷ n ∷ [])) tt (at + 2 * 2) b at (Ok p) → (r : Scanned) → Took (rise apart n 0) (words_at b p n) (p + 2 * n) b p r
      → Took (covered apart n) (words_at b (at + 4) n) (at + 4 + 2 * n) b at r
  covered_taken p t r u =
      let four : p ≡ at + 4 = t.place.0 in
      took_then (these (1 ∷ n ∷ [])) glyphs_behind p t r (rw (← four) u)

-- ---- where the coverage begins, and the count
module _ (most : ℕ) (b : List ℕ) (at : ℕ) where
  -- the count that the offset o says, and whether it can stand
  abbrev count_of : ℕ → ℕ
  count_of o = (o - 6) / 2

  abbrev counts : ℕ → Bool
  counts o = eqb (6 + 2 * count_of o) o && leb (count_of o) most

  pub counted-short : length b < at + 2 → Took (counted most) (count_of (word_at b at)) (at + 4) b at (Err Short)
  counted-short h = one-short counts (λ o k. exactly (count_of o ∷ []) (k (count_of o))) b at h

  module _ (h : at + 2 ≤ length b) where
    wrong-count : counts (word_at b at) ≡ false → Took (counted most) (count_of (word_at b at)) (at + 4) b at (Err (Wrong at))
    wrong-count e = one-wrong counts (λ o k. exactly (count_of o ∷ []) (k (count_of o))) b at h e

    -- it is not 6 and twice a count
    pub counted_odd : (o : ℕ) → o ≡ word_at b at → (ltb o 6 || not (eqb (o % 2) 0)) ≡ true → Took (counted most) (count_of (word_at b at)) (at + 4) b at (Err (Wrong at))
    counted_odd o same e = wrong-count (rw (← same, ne_eqb (6 + 2 * count_of o) o (uneven o e)))
      where
        uneven : (o : ℕ) → (ltb o 6 || not (eqb (o % 2) 0)) ≡ true → 6 + 2 * count_of o ≡ o → ⊥
        uneven o e q = go (ltb o 6) (eqb (o % 2) 0) refl refl e
          where
            go : (s t : Bool) → ltb o 6 ≡ s → eqb (o % 2) 0 ≡ t → (s || not t) ≡ true → ⊥
            go true t f g e = omega (arith, ltb-true o 6 f, q)
            go false true f g e = false≢true e
            go false false f g e = eqb-false (o % 2) 0 g (omega (arith, q))

    -- it is more than there may be
    pub counted-many : (o : ℕ) → o ≡ word_at b at → most < count_of o → Took (counted most) (count_of (word_at b at)) (at + 4) b at (Err (Wrong at))
    counted-many o same e = wrong-count (rw (← same, lt-leb (count_of o) most e) (and_false (eqb (6 + 2 * count_of o) o)))

    pub counted_taken :
        (o : ℕ) → o ≡ word_at b at → (ltb o 6 || not (eqb (o % 2) 0)) ≡ false → count_of o ≤ most → (r : Scanned) → Took (these (count_of o ∷ [])) tt (at + 2 + 2 * 1) b (at + 2) r
        → Took (counted most) (count_of (word_at b at)) (at + 4) b at r
    counted_taken o same e f r t =
        let tests = neither (ltb o 6) (not (eqb (o % 2) 0)) e in
        let six : 6 ≤ o = ltb-false o 6 tests.0 in
        let even : o % 2 ≡ 0 = eqb-true (o % 2) 0 (not-false _ tests.1) in
        let four : at + 2 + 2 * 1 ≡ at + 4 = omega arith in
        one_right counts (λ o k. exactly (count_of o ∷ []) (k (count_of o))) b at h
        (rw (← same, eq-eqb (6 + 2 * count_of o) o (omega (arith, six, even)), le-leb (count_of o) most f)) r
        (rw (← same) (took_end four (took_these (count_of o ∷ []) (count_of o) t)))

-- what is known of a count that was taken
pub counts-known : (r : Scanned) (most o : ℕ) → (ltb o 6 || not (eqb (o % 2) 0)) ≡ false → (o - 6) / 2 ≤ most → Counts r most o
counts-known (Ok p) most o e f = (ltb-false o 6 (neither (ltb o 6) (not (eqb (o % 2) 0)) e).0, f)
counts-known (Err x) most o e f = tt
