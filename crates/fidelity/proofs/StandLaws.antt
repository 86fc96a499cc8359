-- Words that stand in bytes: `Stands` that they do, from a byte on; those of bytes before others (`stands-bytes`); the first of them and the others (`stands-head`), and of two lists both (`stands-append`). The parts that a lookup of either kind has (`Laid`, `laid`), and where its coverage begins (`coverage-at`).
-- Assumes nothing.
use mathlib.Core.Path.{◌≡◌, refl, sym, ap, ap₂, ◌∙◌}
use mathlib.Core.List.{List, [], ◌∷◌, ◌++◌}
use Prim.Native.Nat.{ℕ, zero, suc, ◌+◌, ◌*◌, ◌<◌, ◌≤◌}
use native.Mathlib.Omega.{arith}
use lib.ListN.{length, get_or, take, drop, length-append, get_or-append}
use lib.Seq.{take_at, drop_at}
use Rattle.words.specs.Words.{bytes, word_at, words_at}
use Rattle.words.proofs.WordLaws.{length-bytes, length-words, words_append, read_back}
use Rattle.fidelity.specs.Followed.{subtable_at, coverage_at}

-- the words ws stand in b from byte p on
abbrev pub Stands : List ℕ → ℕ → List ℕ → Type 0
Stands b p ws = words_at b p (length ws) ≡ ws

module _ (b : List ℕ) (p : ℕ) where
  pub stands-head : (w : ℕ) (ws : List ℕ) → Stands b p (w ∷ ws) → (word_at b p ≡ w) × Stands b (p + 2) ws
  unfolding words_at
  stands-head w ws e = (ap (λ (l : List ℕ). get_or l 0 0) e, ap (drop 1) e)

  pub stands-append : (x y : List ℕ) → Stands b p (x ++ y) → Stands b p x × Stands b (p + 2 * length x) y
  stands-append x y e =
      let front : List ℕ = words_at b p (length x) in
      let back : List ℕ = words_at b (p + 2 * length x) (length y) in
      let both : front ++ back ≡ x ++ y = sym (words_append b p (length x) (length y)) ∙ ap (words_at b p) (sym (length-append x y)) ∙ e in
      let n : length front ≡ length x = length-words b p (length x) in (
        sym (take_at front back (length x) n) ∙ ap (take (length x)) both ∙ take_at x y (length x) refl,
        sym (drop_at front back (length x) n) ∙ ap (drop (length x)) both ∙ drop_at x y (length x) refl,
      )

-- words of bytes do not see what lies behind the bytes
word-before : (b rest : List ℕ) (i : ℕ) → i + 1 < length b → word_at (b ++ rest) i ≡ word_at b i
unfolding word_at
word-before b rest i h = rw (get_or-append b rest 0 i (omega arith), get_or-append b rest 0 (i + 1) h)

words-before : (b rest : List ℕ) (i n : ℕ) → i + 2 * n ≤ length b → words_at (b ++ rest) i n ≡ words_at b i n
unfolding words_at
words-before b rest i zero h = refl
words-before b rest i (suc n) h = ap₂ (λ (w : ℕ) (l : List ℕ). w ∷ l) (word-before b rest i (omega arith)) (words-before b rest (i + 2) n (omega arith))

pub stands-bytes : (ws rest : List ℕ) → Stands (bytes ws ++ rest) 0 ws
stands-bytes ws rest = words-before (bytes ws) rest 0 (length ws) (omega (arith, length-bytes ws)) ∙ read_back ws

-- ---- the parts of a lookup
-- its first five words; where the coverage begins, and how many numbers stand before it; these, the coverage, and the others
pub record Laid (b : List ℕ) (type flags format : ℕ) (numbers glyphs others : List ℕ) : Type 0 where
  pub typed : word_at b 0 ≡ type
  pub begins : subtable_at b ≡ 8
  pub headed : words_at b 0 5 ≡ type ∷ flags ∷ 1 ∷ 8 ∷ format ∷ []
  pub covers : word_at b 10 ≡ 6 + 2 * length numbers
  pub counts : word_at b 12 ≡ length numbers
  pub numbered : Stands b 14 numbers
  pub covered : Stands b (14 + 2 * length numbers) (1 ∷ length glyphs ∷ glyphs)
  pub behind : Stands b (18 + 2 * length numbers + 2 * length glyphs) others

module _ (b : List ℕ) (type flags format : ℕ) (numbers glyphs others : List ℕ) where
  pub laid :
      Stands b 0 (type ∷ flags ∷ 1 ∷ 8 ∷ format ∷ (6 + 2 * length numbers) ∷ length numbers ∷ (numbers ++ (1 ∷ length glyphs ∷ (glyphs ++ others))))
      → Laid b type flags format numbers glyphs others
  laid e =
      let h = stands-append b 0 (type ∷ flags ∷ 1 ∷ 8 ∷ format ∷ []) ((6 + 2 * length numbers) ∷ length numbers ∷ (numbers ++ (1 ∷ length glyphs ∷ (glyphs ++ others)))) e in
      let a = stands-head b 0 type (flags ∷ 1 ∷ 8 ∷ format ∷ []) h.0 in
      let c = stands-head b 2 flags (1 ∷ 8 ∷ format ∷ []) a.1 in
      let d = stands-head b 4 1 (8 ∷ format ∷ []) c.1 in
      let f = stands-head b 6 8 (format ∷ []) d.1 in
      let g = stands-head b 10 (6 + 2 * length numbers) (length numbers ∷ (numbers ++ (1 ∷ length glyphs ∷ (glyphs ++ others)))) h.1 in
      let i = stands-head b 12 (length numbers) (numbers ++ (1 ∷ length glyphs ∷ (glyphs ++ others))) g.1 in
      let j = stands-append b 14 numbers (1 ∷ length glyphs ∷ (glyphs ++ others)) i.1 in
      let k = stands-append b (14 + 2 * length numbers) (1 ∷ length glyphs ∷ glyphs) others j.1 in
      record {
        typed = a.0;
        begins = f.0;
        headed = h.0;
        covers = g.0;
        counts = i.0;
        numbered = j.0;
        covered = k.0;
        behind = ap (λ (p : ℕ). words_at b p (length others)) (place (length numbers) (length glyphs)) ∙ k.1;
      }
    where
      place : (m n : ℕ) → 18 + 2 * m + 2 * n ≡ 14 + 2 * m + 2 * suc (suc n)
      place m n = omega arith

  module _ (x : Laid b type flags format numbers glyphs others) where
    pub coverage-at : coverage_at b ≡ 14 + 2 * length numbers
    coverage-at = rw (x.begins, x.covers) (omega arith)
