-- Whole lookups, part behind part: what both kinds begin with (`begun-head`, `begun_format`, `begun_taken`, `opened_known`), a single lookup (`single-begins`, `single-stops`, `single_taken`), a ligature lookup (`most-small`, `sets-few`, `ligature-begins`, `ligature-starts`, `ligature-covered`, `ligature_taken`).
-- Assumes nothing.
use mathlib.Core.Path.{◌≡◌, ap, ◌∙◌}
use mathlib.Core.List.{List, [], ◌∷◌}
use Prim.Native.Nat.{ℕ, ◌+◌, ◌-◌, ◌*◌, ◌/◌, ◌≤◌, ◌<◌}
use native.Mathlib.Nat.{div-mul-le_self, le-div_iff_mul-le, mul-le-mul_left}
use native.Mathlib.Omega.{arith}
use Rattle.words.specs.Words.{word_at, words_at}
use Rattle.layouts.specs.declared.Kind.TheVariants.{Single, Ligature}
use Rattle.layouts.specs.Tables.{Rule}
use Rattle.layouts.specs.Lookups.{Lookup, lookup_of, flat, ligatures}
use Rattle.scanning.specs.Scans.{Rest, exactly, several}
use Rattle.scanning.specs.Grammar.{headed, counted, covered, most_single, most_sets, starts, settled}
use Rattle.std.specs.Prelude.{Ok, Err}
use Rattle.accepting.specs.declared.Fault.{Fault}
use Rattle.accepting.specs.Scanned.{Scanned, Took, these, Counts}
use Rattle.accepting.proofs.TookLaws.{took_else, took_then, took_end, took_map}
use Rattle.grouping.specs.Grouped.{starts_at, leads_at, SetsTaken}
use Rattle.recognizing.specs.Recognized.{begun, count_at, Opened, lookup_at, end_of, SingleTaken, LigatureTaken}

-- ---- what both kinds begin with
pub opened_known : (r : Scanned) (b : List ℕ) → 6 ≤ word_at b 10 → Opened r b
opened_known (Ok p) b h = h
opened_known (Err f) b h = tt

module _ (type format most : ℕ) (b : List ℕ) where
  abbrev behind_head : ℕ → ((ℕ × ℕ) → Rest) → Rest
  behind_head flags k = exactly (format ∷ []) (counted most (λ n. k (flags, n)))

  abbrev behind_format : ℕ → Unit {0} → ((ℕ × ℕ) → Rest) → Rest
  behind_format flags u k = counted most (λ n. k (flags, n))

  pub begun-head : (f : Fault) → Took (headed type) (word_at b 2) 8 b 0 (Err f) → Took (begun type format most) (word_at b 2, count_at b) 14 b 0 (Err f)
  begun-head f t = took_else (headed type) behind_head _ 14 f t

  module _ (p : ℕ) (t : Took (headed type) (word_at b 2) 8 b 0 (Ok p)) where
    pub begun_format : (f : Fault) → Took (these (format ∷ [])) tt (p + 2 * 1) b p (Err f) → Took (begun type format most) (word_at b 2, count_at b) 14 b 0 (Err f)
    begun_format f u = took_then (headed type) behind_head p t (Err f) (took_else (these (format ∷ [])) (behind_format (word_at b 2)) _ 14 f u)

    pub begun_taken :
        (q : ℕ) → Took (these (format ∷ [])) tt (p + 2 * 1) b p (Ok q)
        → (r : Scanned) → Took (counted most) ((word_at b q - 6) / 2) (q + 4) b q r × Counts r most (word_at b q)
        → Took (begun type format most) (word_at b 2, count_at b) 14 b 0 r × Counts r most (word_at b 10)
    begun_taken q u r v =
        let ten : q ≡ 10 = u.place.0 ∙ ap (λ (x : ℕ). x + 2) t.place.0 in
        let taken = rw ten at v in (
          took_then (headed type) behind_head p t r
              (took_then (these (format ∷ [])) (behind_format (word_at b 2)) q u r
              (rw ten (took_map (counted most) (λ n. (word_at b 2, n)) taken.0))),
          taken.1,
        )

-- ---- a single lookup
module _ (b : List ℕ) where
  abbrev listed : (ℕ × ℕ) → (Lookup → Rest) → Rest
  listed x k = several x.1 (λ substitutes. covered 0 x.1 (λ glyphs. k (lookup_of x.0 Single glyphs substitutes)))

  abbrev covered_behind : (ℕ × ℕ) → List ℕ → (Lookup → Rest) → Rest
  covered_behind x substitutes k = covered 0 x.1 (λ glyphs. k (lookup_of x.0 Single glyphs substitutes))

  pub single-begins : (f : Fault) → Took (begun 1 2 most_single) (word_at b 2, count_at b) 14 b 0 (Err f) → SingleTaken b (Err f)
  single-begins f t = took_else (begun 1 2 most_single) listed _ _ f t

  module _ (p : ℕ) (t : Took (begun 1 2 most_single) (word_at b 2, count_at b) 14 b 0 (Ok p)) (n : ℕ) (count : n ≡ count_at b) where
    pub single-stops : (f : Fault) → Took (several n) (words_at b p n) (p + 2 * n) b p (Err f) → SingleTaken b (Err f)
    single-stops f u =
        took_then (begun 1 2 most_single) listed p t (Err f) (took_else (several (count_at b)) (covered_behind (word_at b 2, count_at b)) _ _ f (rw count at u))

    pub single_taken :
        (q : ℕ) → Took (several n) (words_at b p n) (p + 2 * n) b p (Ok q)
        → (r : Scanned) → Took (covered 0 n) (words_at b (q + 4) n) (q + 4 + 2 * n) b q r → SingleTaken b r
    unfolding lookup_at end_of
    single_taken q u r v =
        let start : p ≡ 14 = t.place.0 in
        let place : q + 4 ≡ 18 + 2 * count_at b = omega (arith, u.place.0, start, count) in
        let ends : 18 + 2 * count_at b + 2 * count_at b ≡ 18 + 4 * count_at b = omega arith in
        took_then (begun 1 2 most_single) listed p t r
        (took_then (several (count_at b)) (covered_behind (word_at b 2, count_at b)) q (rw count at u) r
        (rw start (took_map (covered 0 (count_at b)) (λ glyphs. lookup_of (word_at b 2) Single glyphs (words_at b 14 (count_at b))) (took_end ends (rw (count, place) at v)))))

-- ---- a ligature lookup
-- its sets are few
pub most-small : (n : ℕ) → n ≤ 3 → most_sets n < 65536
most-small n h = omega (arith, div-mul-le_self (65531 + 2 * n) (10 + 2 * n), mul-le-mul_left (most_sets n) (ten n))
  where
    ten : (n : ℕ) → 10 ≤ 10 + 2 * n
    ten n = omega arith

pub sets-few : (n s m : ℕ) → 2 ≤ n → n ≤ 3 → s ≡ m → m ≤ most_sets n → s < 16000
sets-few n s m low high e h = let k = (le-div_iff_mul-le {k = 10 + 2 * n} (omega arith)).0 h in omega (arith, k, e, mul-le-mul_left m (fourteen n low))
  where
    fourteen : (n : ℕ) → 2 ≤ n → 14 ≤ 10 + 2 * n
    fourteen n h = omega arith

module _ (n : ℕ) (b : List ℕ) where
  abbrev made : (ℕ × ℕ) → List Rule → Lookup
  made x rules = lookup_of x.0 (Ligature n) (flat rules) (ligatures rules)

  abbrev placed : (ℕ × ℕ) → (Lookup → Rest) → Rest
  placed x k = starts n x.1 (λ os. covered 1 x.1 (λ leads. settled n leads os (λ rules. k (made x rules))))

  abbrev behind_starts : (ℕ × ℕ) → List ℕ → (Lookup → Rest) → Rest
  behind_starts x os k = covered 1 x.1 (λ leads. settled n leads os (λ rules. k (made x rules)))

  abbrev behind_coverage : (ℕ × ℕ) → List ℕ → List ℕ → (Lookup → Rest) → Rest
  behind_coverage x os leads k = settled n leads os (λ rules. k (made x rules))

  pub ligature-begins : (f : Fault) → Took (begun 4 1 (most_sets n)) (word_at b 2, count_at b) 14 b 0 (Err f) → LigatureTaken n b (Err f)
  ligature-begins f t = took_else (begun 4 1 (most_sets n)) placed _ _ f t

  module _ (p : ℕ) (t : Took (begun 4 1 (most_sets n)) (word_at b 2, count_at b) 14 b 0 (Ok p)) (m : ℕ) (count : m ≡ count_at b) where
    pub ligature-starts : (f : Fault) → Took (starts n m) (starts_at (10 + 4 * m) m b (p + 2)) (p + 2 * m) b p (Err f) → LigatureTaken n b (Err f)
    ligature-starts f u =
        took_then (begun 4 1 (most_sets n)) placed p t (Err f) (took_else (starts n (count_at b)) (behind_starts (word_at b 2, count_at b)) _ _ f (rw count at u))

    module _ (q : ℕ) (u : Took (starts n m) (starts_at (10 + 4 * m) m b (p + 2)) (p + 2 * m) b p (Ok q)) where
      pub ligature-covered : (f : Fault) → Took (covered 1 m) (words_at b (q + 4) m) (q + 4 + 2 * m) b q (Err f) → LigatureTaken n b (Err f)
      ligature-covered f v =
          took_then (begun 4 1 (most_sets n)) placed p t (Err f)
          (took_then (starts n (count_at b)) (behind_starts (word_at b 2, count_at b)) q (rw count at u) (Err f)
          (took_else (covered 1 (count_at b)) (behind_coverage (word_at b 2, count_at b) (starts_at (10 + 4 * count_at b) (count_at b) b (p + 2))) _ _ f (rw count at v)))

      pub ligature_taken :
          (x : ℕ) → Took (covered 1 m) (words_at b (q + 4) m) (q + 4 + 2 * m) b q (Ok x) → (r : Scanned) → SetsTaken n m b r → LigatureTaken n b r
      unfolding lookup_at end_of
      ligature_taken x v r w =
          let start : p ≡ 14 = t.place.0 in
          let place : q + 4 ≡ 18 + 2 * count_at b = omega (arith, u.place.0, start, count) in
          let behind : x ≡ 18 + 4 * count_at b = omega (arith, v.place.0, place, count) in
          took_then (begun 4 1 (most_sets n)) placed p t r
          (took_then (starts n (count_at b)) (behind_starts (word_at b 2, count_at b)) q (rw count at u) r
          (took_then (covered 1 (count_at b)) (behind_coverage (word_at b 2, count_at b) (starts_at (10 + 4 * count_at b) (count_at b) b (p + 2))) x (rw count at v) r
          (rw (start, place, behind) (took_map (settled n (leads_at (count_at b) b) (starts_at (10 + 4 * count_at b) (count_at b) b 16)) (made (word_at b 2, count_at b)) (rw count at w)))))
