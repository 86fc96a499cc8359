-- A font's map: codes that rise, by their places (`rising_lt`); the glyph at a place, and none (`glyph-at`, `glyph-none`); the search in a window that is a power of two, whose loop knows that codes before the window are below the code sought, and codes behind it above it (`Searching`, `searching_begins`, `searching_next`, `searching_inside`, `searching_middle`, `searching_finds`, `searching_ends`; `searching_nowhere` without codes); that a search has one answer (`found-once`).
-- Assumes nothing.
use mathlib.Core.Path.{◌≡◌, refl, sym, ap, ◌∙◌}
use mathlib.Core.Bool.{Bool, true, false, cond}
use mathlib.Core.List.{List, [], ◌∷◌}
use Rattle.std.specs.Prelude.{Option, Some, None}
use Prim.Native.Nat.{ℕ, zero, suc, ◌+◌, ◌-◌, ◌*◌, ◌/◌, ◌^◌, ◌≤◌, ◌<◌}
use native.Mathlib.Nat.{pow-zero, pow-suc}
use native.Mathlib.Omega.{arith}
use borrow.Author.Tests.{eq-eqb, ne_eqb, ltb-true, ltb-false}
use lib.Dec.{ltb}
use lib.Pow.{pow_pos}
use lib.ListN.{length, get_or}
use Rattle.refusals.specs.Columns.{rising}
use Rattle.refusals.proofs.ColumnLaws.{rising-at}
use Rattle.fonts.specs.Font.{font_of, Sound, Span, absent, glyph_among, number_found}
use Rattle.letters.specs.declared.Glyph.{Glyph}

-- ---- codes that rise strictly
pub rising_lt : (l : List ℕ) → rising 1 l ≡ true → (i j : ℕ) → i < j → j < length l → get_or l i 0 < get_or l j 0
rising_lt l e i zero h g = absurd (omega arith)
rising_lt l e i (suc j) h g = go (ltb i j) refl (λ q. rising_lt l e i j q (omega arith))
  where
    go : (t : Bool) → ltb i j ≡ t → (i < j → get_or l i 0 < get_or l j 0) → get_or l i 0 < get_or l (suc j) 0
    go true p f = omega (arith, f (ltb-true i j p), rising-at 1 l e j g)
    go false p f =
        let z : i ≡ j = omega (arith, ltb-false i j p) in
        rw z (omega (arith, rising-at 1 l e j g))

-- ---- the glyph of a code
pub glyph-none : (cs gs : List ℕ) (x : ℕ) → ((k : ℕ) → k < length cs → get_or cs k 0 ≡ x → ⊥) → glyph_among cs gs x ≡ absent
unfolding glyph_among
glyph-none [] gs x h = refl
glyph-none (c ∷ cs) [] x h = refl
glyph-none (c ∷ cs) (g ∷ gs) x h = rw (ne_eqb c x (h 0 (omega arith))) (glyph-none cs gs x (λ k p. h (suc k) (omega arith)))

-- that at the first place where the code stands
pub glyph-at :
    (cs gs : List ℕ) (x m : ℕ) → length cs ≡ length gs → m < length cs → get_or cs m 0 ≡ x → ((k : ℕ) → k < m → get_or cs k 0 ≡ x → ⊥)
    → glyph_among cs gs x ≡ get_or gs m 0
unfolding glyph_among
glyph-at [] gs x m e h p q = absurd (omega arith)
glyph-at (c ∷ cs) [] x m e h p q = absurd (omega arith)
glyph-at (c ∷ cs) (g ∷ gs) x zero e h p q = rw (eq-eqb c x p)
glyph-at (c ∷ cs) (g ∷ gs) x (suc m) e h p q =
    rw (ne_eqb c x (q 0 (omega arith))) (glyph-at cs gs x m (omega arith) (omega arith) p (λ k r. q (suc k) (omega arith)))

-- ---- the search in a window that is a power of two
pub record Searching (codes : List ℕ) (x base half : ℕ) : Type 0 where
  pub exponent : ℕ
  pub window : ℕ
  pub power : window ≡ 2 ^ exponent
  pub halves : half ≡ window / 2
  pub inside : base + window ≤ length codes
  pub below : (k : ℕ) → k < base → get_or codes k 0 < x
  pub above : (k : ℕ) → base + window ≤ k → k < length codes → x < get_or codes k 0

-- a power of two has a half, or is 1
power-half : (e w : ℕ) → w ≡ 2 ^ e → 0 < w / 2 → (d : ℕ) × (w / 2 ≡ 2 ^ d) × (w ≡ w / 2 + w / 2)
power-half zero w p h = absurd (omega (arith, p, pow-zero 2))
power-half (suc d) w p h =
    let z : w ≡ 2 ^ d * 2 = p ∙ pow-suc 2 d in
    (d, omega arith, omega arith)

power-one : (e w : ℕ) → w ≡ 2 ^ e → w / 2 ≡ 0 → w ≡ 1
power-one zero w p h = p ∙ pow-zero 2
power-one (suc d) w p h =
    let z : w ≡ 2 ^ d * 2 = p ∙ pow-suc 2 d in
    absurd (omega (arith, pow_pos d))

module _ {codes gs : List ℕ} {x : ℕ} (s : Sound (font_of codes gs)) where
  -- codes before one that is not above the code sought, and codes from one on that is above it
  before : (m : ℕ) → m < length codes → get_or codes m 0 ≤ x → (k : ℕ) → k < m → get_or codes k 0 < x
  before m g e k q = omega (arith, rising_lt codes s.rises k m q g)

  from : (m : ℕ) → x < get_or codes m 0 → (k : ℕ) → m ≤ k → k < length codes → x < get_or codes k 0
  from m e k q r = go (ltb m k) refl
    where
      go : (t : Bool) → ltb m k ≡ t → x < get_or codes k 0
      go true t = omega (arith, rising_lt codes s.rises m k (ltb-true m k t) r)
      go false t =
          let z : k ≡ m = omega (arith, ltb-false m k t) in
          rw z e

  pub searching_begins :
      {span : ℕ} → Span (length codes) span → 0 < length codes → {r : ℕ}
      → r ≡ cond (ltb x (get_or codes (length codes - span) 0)) 0 (length codes - span) → Searching codes x r (span / 2)
  searching_begins {span} p h {r} e = go (ltb x (get_or codes (length codes - span) 0)) refl e
    where
      some : 0 < span
      some = omega (arith, p.reaches)

      go : (t : Bool) → ltb x (get_or codes (length codes - span) 0) ≡ t → r ≡ cond t 0 (length codes - span) → Searching codes x r (span / 2)
      go true t z =
          record {
            exponent = p.exponent;
            window = span;
            power = p.power;
            halves = refl;
            inside = omega (arith, p.inside h);
            below = λ k q. absurd (omega arith);
            above = λ k q l. from (length codes - span) (ltb-true x (get_or codes (length codes - span) 0) t) k (omega (arith, p.reaches)) l;
          }
      go false t z =
          record {
            exponent = p.exponent;
            window = span;
            power = p.power;
            halves = refl;
            inside = omega (arith, p.inside h);
            below = λ k q. before (length codes - span) (omega (arith, some, p.inside h)) (ltb-false x (get_or codes (length codes - span) 0) t) k (omega arith);
            above = λ k q l. absurd (omega (arith, p.inside h));
          }

  pub searching_next :
      {base half : ℕ} → Searching codes x base half → 0 < half → {r : ℕ}
      → r ≡ cond (ltb x (get_or codes (base + half) 0)) base (base + half) → Searching codes x r (half / 2)
  searching_next {base} {half} p h {r} e =
      go (power-half p.exponent p.window p.power (omega (arith, p.halves))) (ltb x (get_or codes (base + half) 0)) refl e
    where
      go :
          ((d : ℕ) × (p.window / 2 ≡ 2 ^ d) × (p.window ≡ p.window / 2 + p.window / 2)) → (t : Bool)
          → ltb x (get_or codes (base + half) 0) ≡ t → r ≡ cond t base (base + half) → Searching codes x r (half / 2)
      go (d, f, w) true t z =
          record {
            exponent = d;
            window = half;
            power = p.halves ∙ f;
            halves = refl;
            inside = omega (arith, p.inside, p.halves);
            below = λ k q. p.below k (omega arith);
            above = λ k q l. from (base + half) (ltb-true x (get_or codes (base + half) 0) t) k (omega arith) l;
          }
      go (d, f, w) false t z =
          record {
            exponent = d;
            window = half;
            power = p.halves ∙ f;
            halves = refl;
            inside = omega (arith, p.inside, p.halves);
            below = λ k q. before (base + half) (omega (arith, p.inside, p.halves)) (ltb-false x (get_or codes (base + half) 0) t) k (omega arith);
            above = λ k q l. p.above k (omega (arith, p.halves)) l;
          }

-- the last window is one code
module _ {codes : List ℕ} {x base half : ℕ} (p : Searching codes x base half) where
  pub searching_inside : base < length codes
  searching_inside = omega (arith, p.inside, p.power, pow_pos p.exponent)

  pub searching_middle : 0 < half → base + half < length codes
  searching_middle h = omega (arith, p.inside, p.halves)

  pub searching_finds : (gs : List ℕ) → length codes ≡ length gs → get_or codes base 0 ≡ x → get_or gs base 0 ≡ glyph_among codes gs x
  searching_finds gs l e = sym (glyph-at codes gs x base l searching_inside e (λ k q r. omega (arith, p.below k q)))

  pub searching_ends : (gs : List ℕ) → half ≡ 0 → (get_or codes base 0 ≡ x → ⊥) → absent ≡ glyph_among codes gs x
  searching_ends gs h n = sym (glyph-none codes gs x (λ k q e. go k q e (ltb k base) refl (ltb base k) refl))
    where
      one : p.window ≡ 1
      one = power-one p.exponent p.window p.power (sym p.halves ∙ h)

      go : (k : ℕ) → k < length codes → get_or codes k 0 ≡ x → (t : Bool) → ltb k base ≡ t → (u : Bool) → ltb base k ≡ u → ⊥
      go k q e true t u v = omega (arith, p.below k (ltb-true k base t))
      go k q e false t true v = omega (arith, p.above k (omega (arith, one, ltb-true base k v)) q)
      go k q e false t false v =
          let z : base ≡ k = omega (arith, ltb-false k base t, ltb-false base k v) in
          n (rw z e)

pub searching_nowhere : (codes gs : List ℕ) (x : ℕ) → length codes ≡ 0 → absent ≡ glyph_among codes gs x
searching_nowhere codes gs x e = sym (glyph-none codes gs x (λ k q r. omega arith))

-- ---- one answer, since a glyph is of 32 bits
abbrev pub Small : Option Glyph → Type 0
Small (Some g) = g.0 < absent
Small None = Unit

pub found-once : (a b : Option Glyph) → Small a → Small b → number_found a ≡ number_found b → a ≡ b
found-once (Some x) (Some y) s t e = ap (λ n. Some (record { 0 = n })) e
found-once (Some x) None s t e = absurd (omega arith)
found-once None (Some y) s t e = absurd (omega arith)
found-once None None s t e = refl
