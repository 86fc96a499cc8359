-- Whether a scan came to the end of the bytes: what it says then (`scan-fine`), and if not (`scan-other`); the first of three kinds that is fine (`read-single`, `read_pairs`, `read_triples`), or none (`read_none`), and bytes of an odd number (`read_odd`); what is answered then (`single-held`, `single-other`, `ligature-held`, `ligature-other`).
-- Assumes nothing.
use mathlib.Core.Path.{◌≡◌, refl, sym, ap, ◌∙◌}
use mathlib.Core.Bool.{true, false, false≢true}
use mathlib.Core.List.{List, []}
use Prim.Native.Nat.{ℕ, ◌+◌, ◌-◌, ◌/◌, ◌%◌, ◌≤◌, ◌<◌}
use native.Mathlib.Omega.{arith}
use borrow.Author.Tests.{ltb-true, ltb-false, ne_eqb, eq-eqb}
use lib.ListN.{length}
use Rattle.words.specs.Words.{word_at, words_at}
use Rattle.words.proofs.WordLaws.{words-none, words-next}
use Rattle.layouts.specs.declared.Kind.TheVariants.{Single, Ligature}
use Rattle.layouts.specs.Lookups.{Lookup}
use Rattle.scanning.specs.Scans.{Scan, Rest, fine, wrong, short, end, further}
use Rattle.scanning.specs.Grammar.{single_scan, ligature_scan, scan, reading, left_over}
use Rattle.scanning.proofs.KindLaws.{further-second}
use Rattle.std.specs.Prelude.{Ok, Err}
use Rattle.accepting.specs.declared.Fault.TheVariants.{Wrong, Short}
use Rattle.accepting.specs.Scanned.{Scanned, from, after, Took}
use Rattle.recognizing.specs.Recognized.{lookup_at, Opened, single_part, SingleTaken, ligature_part, LigatureTaken, Inside, ends_in, Held}

-- nothing is read
abbrev pub Other : Scan → Type 0
Other s = (l : Lookup) → s ≡ fine l → ⊥

wrong-other : (n : ℕ) → Other (wrong n)
wrong-other n l e = let z : ◌≡◌ {A = ℕ} 0 1 = cc in omega arith

short-other : Other short
short-other l e = let z : ◌≡◌ {A = ℕ} 0 1 = cc in omega arith

pub took_inside : {A : Type 0} {part : (A → Rest) → Rest} {value : A} {e : ℕ} {b : List ℕ} {p : ℕ} (r : Scanned) → Took part value e b p r → Inside r (length b)
took_inside (Ok q) t = t.place.1
took_inside (Err f) t = tt

-- ---- one scan
-- no word from a place on
none_left : (b : List ℕ) (p : ℕ) → length b - p < 2 → from b p ≡ []
unfolding from
none_left b p h = words-none b p _ (none (length b - p) h)
  where
    none : (m : ℕ) → m < 2 → m / 2 ≡ 0
    none m h = omega arith

-- some word from a place on
some_left : (l : Lookup) (b : List ℕ) (p : ℕ) → 2 ≤ length b - p → Other (end l (from b p))
unfolding from end
some_left l b p h = rw (words-next b p _ (some (length b - p) h)) (wrong-other _)
  where
    some : (m : ℕ) → 2 ≤ m → 0 < m / 2
    some m h = omega arith

module _ (part : (Lookup → Rest) → Rest) {l : Lookup} {e : ℕ} (b : List ℕ) where
  pub scan-fine : (r : Scanned) → Took part l e b 0 r → ends_in r (length b) ≡ true → (part (end) (from b 0) ≡ fine l) × ((e ≤ length b) × (length b < e + 2))
  unfolding after end
  scan-fine (Ok p) t h =
      let left : length b - p < 2 = ltb-true (length b - p) 2 h in
      (t.goes end ∙ rw (none_left b p left), (omega (arith, t.place.0, t.place.1), omega (arith, t.place.0, t.place.1, left)))
  scan-fine (Err f) t h = absurd (false≢true h)

  pub scan-other : (r : Scanned) → Took part l e b 0 r → ends_in r (length b) ≡ false → Other (part end (from b 0))
  unfolding after
  scan-other (Ok p) t h x f = some_left l b p (ltb-false (length b - p) 2 h) x (sym (t.goes end) ∙ f)
  scan-other (Err (Wrong p)) t h x f = wrong-other _ x (sym (t.goes end) ∙ f)
  scan-other (Err Short) t h x f = short-other x (sym (t.goes end) ∙ f)

-- ---- the three kinds
further-none : (s t : Scan) → Other s → Other t → Other (further s t)
further-none (fine m) t o p = absurd (o m refl)
further-none (wrong n) (fine m) o p = absurd (p m refl)
further-none (wrong n) (wrong m) o p = wrong-other _
further-none (wrong n) short o p = short-other
further-none short (fine m) o p = absurd (p m refl)
further-none short (wrong m) o p = short-other
further-none short short o p = short-other

left_over_lem : (s : Scan) → Other (left_over s)
left_over_lem (fine l) = wrong-other 0
left_over_lem (wrong n) = wrong-other n
left_over_lem short = short-other

module _ (b : List ℕ) where
  -- all the words
  words : from b 0 ≡ words_at b 0 (length b / 2)
  unfolding from
  words = ap (λ (m : ℕ). words_at b 0 (m / 2)) (all (length b))
    where
      all : (m : ℕ) → m - 0 ≡ m
      all m = omega arith

  pub read_odd : (length b % 2 ≡ 0 → ⊥) → Other (reading b)
  unfolding reading
  read_odd d = rw (ne_eqb (length b % 2) 0 d) (left_over_lem (scan (words_at b 0 (length b / 2))))

  module _ (even : length b % 2 ≡ 0) where
    scanned : reading b ≡ further (single_scan 0 (from b 0)) (further (ligature_scan 2 (from b 0)) (ligature_scan 3 (from b 0)))
    unfolding reading scan
    scanned = rw (eq-eqb (length b % 2) 0 even, words)

    pub read-single : {l : Lookup} → single_scan 0 (from b 0) ≡ fine l → reading b ≡ fine l
    read-single e = scanned ∙ rw e

    module _ (first : Other (single_scan 0 (from b 0))) where
      pub read_pairs : {l : Lookup} → ligature_scan 2 (from b 0) ≡ fine l → reading b ≡ fine l
      read_pairs {l} e = scanned ∙ further-second (single_scan 0 (from b 0)) _ l first (rw e)

      module _ (second : Other (ligature_scan 2 (from b 0))) where
        pub read_triples : {l : Lookup} → ligature_scan 3 (from b 0) ≡ fine l → reading b ≡ fine l
        read_triples {l} e = scanned ∙ further-second (single_scan 0 (from b 0)) _ l first (further-second (ligature_scan 2 (from b 0)) _ l second e)

        pub read_none : Other (ligature_scan 3 (from b 0)) → Other (reading b)
        read_none third = rw scanned (further-none (single_scan 0 (from b 0)) _ first (further-none (ligature_scan 2 (from b 0)) (ligature_scan 3 (from b 0)) second third))

-- ---- what is answered
pub opened_ends : (r : Scanned) (b : List ℕ) → ends_in r (length b) ≡ true → Opened r b → 6 ≤ word_at b 10
opened_ends (Ok p) b h o = o
opened_ends (Err f) b h o = absurd (false≢true h)

module _ (b : List ℕ) (r : Scanned) where
  -- a single lookup that came to its end
  pub single-held : length b % 2 ≡ 0 → SingleTaken b r → Opened r b → ends_in r (length b) ≡ true → Held Single b
  unfolding single_scan
  single-held even t o h =
      let f = scan-fine single_part b r t h in
      record { said = read-single b even f.0; offset = opened_ends r b h o; within = f.1.0; filled = f.1.1 }

  pub single-other : SingleTaken b r → ends_in r (length b) ≡ false → Other (single_scan 0 (from b 0))
  unfolding single_scan
  single-other t h = scan-other single_part b r t h

  -- a ligature lookup, likewise; that the bytes say it hangs on the kinds before it
  module _ (n : ℕ) (t : LigatureTaken n b r) where
    pub ligature-held :
        Opened r b → ends_in r (length b) ≡ true → (ligature_scan n (from b 0) ≡ fine (lookup_at (Ligature n) b) → reading b ≡ fine (lookup_at (Ligature n) b))
        → Held (Ligature n) b
    unfolding ligature_scan
    ligature-held o h say =
        let f = scan-fine (ligature_part n) b r t h in
        record { said = say f.0; offset = opened_ends r b h o; within = f.1.0; filled = f.1.1 }

    pub ligature-other : ends_in r (length b) ≡ false → Other (ligature_scan n (from b 0))
    unfolding ligature_scan
    ligature-other h = scan-other (ligature_part n) b r t h
