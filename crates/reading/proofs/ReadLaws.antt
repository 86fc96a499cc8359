-- What the call answers: bytes that are no lookup (`no_lookup_lem`), columns too short for one (`no_room`), and a lookup read (`read_whole`); how many rules a lookup has, by the number of its bytes (`single-count`, `ligature-count`); so a lookup of each kind (`single-place`, `single-room`, `single-read`; `ligature-place`, `rules-count`, `parts-count`, `ligature-room`, `ligature-read`).
-- Assumes nothing.
use mathlib.Core.Path.{◌≡◌, refl, ◌∙◌}
use mathlib.Core.Bool.{Bool, true, false, ◌||◌}
use mathlib.Core.List.{List, ◌++◌}
use Prim.Native.Nat.{ℕ, suc, ◌+◌, ◌-◌, ◌*◌, ◌/◌, ◌≤◌, ◌<◌}
use native.Mathlib.Nat.{le-div_iff_mul-le}
use native.Mathlib.Omega.{arith}
use borrow.Author.Tests.{ltb-true, ltb-false}
use lib.Dec.{ltb}
use lib.ListN.{length, drop, length-map}
use Rattle.std.specs.Prelude.{Ok, Err}
use Rattle.refusals.specs.Numbers.{said as number_said}
use Rattle.refusals.specs.declared.Refusal.TheVariants.{NoLookup, NoRoom}
use Rattle.layouts.specs.declared.Kind.TheVariants.{Single, Ligature}
use Rattle.layouts.specs.Lookups.{Lookup, flat, ligatures}
use Rattle.words.specs.Words.{word_at, words_at}
use Rattle.words.proofs.WordLaws.{length-words, paste_front}
use Rattle.scanning.specs.Scans.{Scan, fine, wrong, short}
use Rattle.scanning.specs.Grammar.{reading}
use Rattle.grouping.specs.Grouped.{leads_at}
use Rattle.filling.specs.Filled.{Filled}
use Rattle.filling.proofs.RuleLaws.{end_is, flat-sets}
use Rattle.recognizing.specs.Recognized.{count_at, rules_in, lookup_at, end_of, Held}
use Rattle.reading.specs.Read.{Columns, list_of, found, read_refusal, Answer, outcome_said, Reading}

-- ---- what the call answers
module _ (b : List ℕ) (c : Columns) where
  pub no_lookup_lem : ((l : Lookup) → reading b ≡ fine l → ⊥) → Reading b c (Err NoLookup) c
  unfolding read_refusal
  no_lookup_lem other = go (reading b) refl
    where
      go : (s : Scan) → reading b ≡ s → Reading b c (Err NoLookup) c
      go (fine l) e = absurd (other l e)
      go (wrong n) e = rw e
      go short e = rw e

  module _ (l : Lookup) (said : reading b ≡ fine l) where
    pub no_room : (ltb (length c.glyphs) (length l.glyphs) || ltb (length c.substitutes) (length l.substitutes)) ≡ true → Reading b c (Err NoRoom) c
    unfolding read_refusal
    no_room h = rw (said, h)

    pub read_whole :
        (ltb (length c.glyphs) (length l.glyphs) || ltb (length c.substitutes) (length l.substitutes)) ≡ false
        → (r : Answer) → number_said r ≡ 0 → (left : Columns) → outcome_said r left ≡ found l c → Reading b c r left
    unfolding read_refusal
    read_whole h r accepted left e = rw (said, h, accepted, e)

-- ---- how many rules a lookup has
-- a quotient of bytes, of which one may be left over
quotient : (x k m : ℕ) → 2 ≤ k → m * k ≤ x → x < m * k + 2 → x / k ≡ m
quotient x k m h lo hi =
    let least : m ≤ x / k = (le-div_iff_mul-le {k = k} (omega arith)).1 lo in
    go (ltb m (x / k)) refl least
  where
    past : suc m ≤ x / k → ⊥
    past g = omega (arith, (le-div_iff_mul-le {k = k} (omega (arith, h))).0 g)

    go : (t : Bool) → ltb m (x / k) ≡ t → m ≤ x / k → x / k ≡ m
    go true e l = absurd (past (ltb-true m (x / k) e))
    go false e l = omega (arith, ltb-false m (x / k) e)

pub single-count : (b : List ℕ) → Held Single b → (length b - 18) / 4 ≡ count_at b
unfolding end_of
single-count b h = omega (arith, h.within, h.filled)

pub ligature-count : (n : ℕ) (b : List ℕ) → Held (Ligature n) b → (length b - (18 + 6 * count_at b)) / (4 + 2 * n) ≡ length (rules_in n b)
unfolding end_of
ligature-count n b h =
    let e = end_is n (leads_at (count_at b) b) b (18 + 4 * count_at b) in
    let m = length-words b (18 + 2 * count_at b) (count_at b) in
    quotient (length b - (18 + 6 * count_at b)) (4 + 2 * n) (length (rules_in n b)) (omega arith) (omega (arith, e, m, h.within)) (omega (arith, e, m, h.within, h.filled))

-- ---- a single lookup
module _ (b g s : List ℕ) (h : Held Single b) (n : ℕ) (count : n ≡ (length b - 18) / 4) where
  n-is : n ≡ count_at b
  n-is = count ∙ single-count b h

  pub single-place : 18 + 4 * n ≤ length b
  unfolding end_of
  single-place = omega (arith, n-is, h.within)

  -- columns of n and n
  lengths : (t : Bool) → (ltb (length g) n || ltb (length s) n) ≡ t → (ltb (length g) (length (lookup_at Single b).glyphs) || ltb (length s) (length (lookup_at Single b).substitutes)) ≡ t
  unfolding lookup_at
  lengths t e = rw (length-words b (18 + 2 * count_at b) (count_at b), length-words b 14 (count_at b), ← n-is) e

  pub single-room : (ltb (length g) n || ltb (length s) n) ≡ true → Reading b (list_of g s) (Err NoRoom) (list_of g s)
  single-room e = no_room b (list_of g s) (lookup_at Single b) h.said (lengths true e)

  pub single-read :
      (ltb (length g) n || ltb (length s) n) ≡ false → (flags : ℕ) → flags ≡ word_at b 2 → (g' s' : List ℕ) → g' ≡ words_at b (18 + 2 * n) n ++ drop n g → s' ≡ words_at b 14 n ++ drop n s
      → Reading b (list_of g s) (Ok (record { flags = flags; len = n; kind = Single })) (list_of g' s')
  unfolding lookup_at
  single-read e flags f g' s' p q =
      read_whole b (list_of g s) (lookup_at Single b) h.said (lengths false e) (Ok (record { flags = flags; len = n; kind = Single })) refl (list_of g' s')
      (rw (f, p, q, n-is, length-words b (18 + 2 * count_at b) (count_at b), length-words b 14 (count_at b)))

-- ---- a ligature lookup
module _ (m : ℕ) (b g s : List ℕ) (h : Held (Ligature m) b) (low : 2 ≤ m) (sets : ℕ) (o : sets ≡ count_at b) where
  -- where the sets end
  pub ligature-place : 18 + 6 * sets + length (rules_in m b) * (4 + 2 * m) ≤ length b
  unfolding end_of
  ligature-place = omega (arith, end_is m (leads_at (count_at b) b) b (18 + 4 * count_at b), length-words b (18 + 2 * count_at b) (count_at b), o, h.within)

  module _ (n : ℕ) (count : n ≡ (length b - (18 + 6 * sets)) / (4 + 2 * m)) where
    pub rules-count : n ≡ length (rules_in m b)
    rules-count = count ∙ rw o (ligature-count m b h)

    pub parts-count : length (flat (rules_in m b)) ≡ n * m
    parts-count = flat-sets m (leads_at (count_at b) b) b (18 + 4 * count_at b) (omega (arith, low)) ∙ rw (← rules-count)

    rooms : (t : Bool) → (ltb (length g) (n * m) || ltb (length s) n) ≡ t → (ltb (length g) (length (lookup_at (Ligature m) b).glyphs) || ltb (length s) (length (lookup_at (Ligature m) b).substitutes)) ≡ t
    unfolding lookup_at
    rooms t e = rw (parts-count, length-map, ← rules-count) e

    pub ligature-room : (ltb (length g) (n * m) || ltb (length s) n) ≡ true → Reading b (list_of g s) (Err NoRoom) (list_of g s)
    ligature-room e = no_room b (list_of g s) (lookup_at (Ligature m) b) h.said (rooms true e)

    pub ligature-read :
        (ltb (length g) (n * m) || ltb (length s) n) ≡ false → (flags : ℕ) → flags ≡ word_at b 2 → (g' s' : List ℕ) → Filled (rules_in m b) g 0 s 0 g' s'
        → Reading b (list_of g s) (Ok (record { flags = flags; len = n; kind = Ligature m })) (list_of g' s')
    unfolding lookup_at
    ligature-read e flags f g' s' d =
        read_whole b (list_of g s) (lookup_at (Ligature m) b) h.said (rooms false e) (Ok (record { flags = flags; len = n; kind = Ligature m })) refl (list_of g' s')
        (rw (f, d.parts, d.wholes, paste_front (flat (rules_in m b)) g, paste_front (ligatures (rules_in m b)) s, rules-count, length-map))
