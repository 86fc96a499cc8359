-- Acceptance word by word is exact: what is written is accepted and reads as it was (`accepted-written`), and what is read was written (`read-is-written`); two lookups with the same words read alike (`read_alike`), and words are those of one lookup only that is as it reads (`written_once`). The same of bytes (`bytes-accepted`, `bytes-written`), and in one statement (`exact`).
-- Assumes nothing.
use mathlib.Core.Path.{◌≡◌, refl, sym, ap, ◌∙◌}
use mathlib.Core.Bool.{Bool, true, false, cond, not}
use mathlib.Core.Logic.{◌⊎◌, inl, inr}
use mathlib.Core.List.{List, [], ◌∷◌, ◌++◌, map}
use Prim.Native.Nat.{ℕ, ◌+◌, ◌*◌, ◌/◌, ◌%◌, ◌<◌, ◌≤◌}
use native.Mathlib.Nat.{zero-mul}
use native.Mathlib.Omega.{arith}
use borrow.Author.Tests.{eqb-true, eq-eqb, le-ltb, not-false}
use lib.Dec.{eqb}
use lib.ListN.{length, get_or, take, drop}
use Rattle.laws.proofs.RowLaws.{first-none}
use Rattle.refusals.specs.Columns.{rising}
use Rattle.words.specs.Words.{bytes, words_at}
use Rattle.words.proofs.WordLaws.{length-bytes, read_back, bytes_read, words-fit}
use Rattle.layouts.specs.declared.Kind.{Kind}
use Rattle.layouts.specs.declared.Kind.TheVariants.{Single, Ligature}
use Rattle.layouts.specs.Tables.{Rule, first, sets, offsets, joined, single, ligature_of, ligature}
use Rattle.layouts.specs.Lookups.{Lookup, lookup_of, width, known, rules, laid_out, words_of, firsts_in, firsts, fits}
use Rattle.layouts.specs.Written.{write_rows, write_refusal}
use Rattle.layouts.proofs.FitLaws.{fits-parts, fits_head, fits-lent}
use Rattle.layouts.proofs.WrittenLaws.{two-or-three}
use Rattle.scanning.specs.Scans.{Scan, fine, wrong, short, further}
use Rattle.scanning.specs.Grammar.{most_single, single_scan, ligature_scan, scan, left_over, reading}
use Rattle.scanning.specs.Exact.{kind_read, as_read, Readable, IsWritten, Accepted, Written, Exact}
use Rattle.scanning.proofs.TakeLaws.{wrong-fine, short-fine, same-fine}
use Rattle.scanning.proofs.SizeLaws.{in_most_single}
use Rattle.scanning.proofs.SingleLaws.{SingleRead, single-on, single-back}
use Rattle.scanning.proofs.KindLaws.{further-second, further-back, ligature_no_single, ligature-one-number}
use Rattle.scanning.proofs.LigatureLaws.{LigatureRead, ligature-on, ligature-back}

-- ---- what is written is accepted, and reads as it was
single-accepted :
    (flags : ℕ) (glyphs substitutes : List ℕ) → length glyphs ≡ length substitutes * 1 → fits (single flags glyphs substitutes) ≡ true → rising 0 glyphs ≡ true
    → scan (single flags glyphs substitutes) ≡ fine (lookup_of flags Single glyphs substitutes)
unfolding scan single
single-accepted flags glyphs substitutes even fit up =
    let n : ℕ = length substitutes in
    let a = (fits-parts (1 ∷ flags ∷ 1 ∷ 8 ∷ 2 ∷ []) ((6 + 2 * n) ∷ n ∷ (substitutes ++ (1 ∷ length glyphs ∷ glyphs))) fit).1 in
    let b = fits-parts ((6 + 2 * n) ∷ n ∷ substitutes) (1 ∷ length glyphs ∷ glyphs) a in
    let few : n ≤ most_single = in_most_single n (fits_head (6 + 2 * n) (n ∷ substitutes) b.0).0 in
    rw (single-on 0 flags glyphs substitutes (omega arith) few up (fits-parts (1 ∷ length glyphs ∷ []) glyphs b.1).1)

-- some rule: by its own component number, and no other
module _ (flags n : ℕ) (r : Rule) (rs : List Rule) (l : Lookup) where
  some-accepted : (n ≡ 2) ⊎ (n ≡ 3) → ligature_scan n (ligature flags n (r ∷ rs)) ≡ fine l → scan (ligature flags n (r ∷ rs)) ≡ fine l
  unfolding scan
  some-accepted c e =
      further-second (single_scan 0 ws) (further (ligature_scan 2 ws) (ligature_scan 3 ws)) l (λ m. ligature_no_single 0 flags n (r ∷ rs) m) (go c)
    where
      ws : List ℕ
      ws = ligature flags n (r ∷ rs)

      go : (n ≡ 2) ⊎ (n ≡ 3) → further (ligature_scan 2 ws) (ligature_scan 3 ws) ≡ fine l
      go (inl z) = ap (λ (s : Scan). further s (ligature_scan 3 ws)) (ap (λ (k : ℕ). ligature_scan k ws) (sym z) ∙ e)
      go (inr z) =
          further-second (ligature_scan 2 ws) (ligature_scan 3 ws) l (λ m d. not-both (ligature-one-number flags n 2 r rs m (omega arith) (omega arith) d)) (ap (λ (k : ℕ). ligature_scan k ws) (sym z) ∙ e)
        where
          not-both : n ≡ 2 → ⊥
          not-both y = omega arith

-- no rule: as with 2 components
none-accepted : (flags n : ℕ) → fits (ligature flags n []) ≡ true → scan (ligature flags n []) ≡ fine (lookup_of flags (Ligature 2) [] [])
unfolding scan ligature ligature_of sets offsets joined rules
none-accepted flags n fit =
    further-second (single_scan 0 (ligature flags n [])) (further (ligature_scan 2 (ligature flags n [])) (ligature_scan 3 (ligature flags n []))) (lookup_of flags (Ligature 2) [] [])
    (λ m. ligature_no_single 0 flags n [] m)
    (rw (ligature-on 2 (omega arith) flags [] [] refl refl fit))

ligature-accepted :
    (flags n : ℕ) (components ligatures : List ℕ) → known (Ligature n) ≡ true → length components ≡ length ligatures * n
    → fits (ligature flags n (rules n components ligatures)) ≡ true → rising 0 (map first (rules n components ligatures)) ≡ true
    → scan (ligature flags n (rules n components ligatures)) ≡ fine (lookup_of flags (kind_read (Ligature n) ligatures) components ligatures)
unfolding rules
ligature-accepted flags n [] [] named even fit up = none-accepted flags n fit
ligature-accepted flags n (c ∷ components) [] named even fit up = absurd (omega (arith, zero-mul n))
ligature-accepted flags n components (l ∷ ligatures) named even fit up =
    let c = two-or-three n named in
    some-accepted flags n (record { components = take n components; ligature = l }) (rules n (drop n components) ligatures) (lookup_of flags (Ligature n) components (l ∷ ligatures)) c
    (ligature-on n (low c) flags components (l ∷ ligatures) even up fit)
  where
    low : (n ≡ 2) ⊎ (n ≡ 3) → 0 < n
    low (inl z) = omega arith
    low (inr z) = omega arith

pub accepted-written : (l : Lookup) → Readable l → scan (words_of l) ≡ fine (as_read l)
accepted-written l r = go l.kind r.even r.named r.fit r.up
  where
    go :
        (kind : Kind) → length l.glyphs ≡ length l.substitutes * width kind → known kind ≡ true → fits (laid_out kind l.flags l.glyphs l.substitutes) ≡ true
        → rising 0 (firsts_in kind l.glyphs l.substitutes) ≡ true
        → scan (laid_out kind l.flags l.glyphs l.substitutes) ≡ fine (lookup_of l.flags (kind_read kind l.substitutes) l.glyphs l.substitutes)
    go Single even named fit up = single-accepted l.flags l.glyphs l.substitutes even fit up
    go (Ligature n) even named fit up = ligature-accepted l.flags n l.glyphs l.substitutes named even fit up

-- two lookups with the same words read alike; and so, where each is as it reads, they are one
pub read_alike : (l m : Lookup) → Readable l → Readable m → words_of l ≡ words_of m → as_read l ≡ as_read m
read_alike l m r q e = same-fine (as_read l) (as_read m) (sym (accepted-written l r) ∙ ap scan e ∙ accepted-written m q)

pub written_once : (ws : List ℕ) (l m : Lookup) → IsWritten ws l → IsWritten ws m → l ≡ m
written_once ws l m w v = sym w.same ∙ read_alike l m w.readable v.readable (sym w.made ∙ v.made) ∙ v.same

-- ---- what is read was written
module _ (ws : List ℕ) (l : Lookup) (fit : fits ws ≡ true) where
  of-kind :
      (kind : Kind) → l.kind ≡ kind → known kind ≡ true → length l.glyphs ≡ length l.substitutes * width kind
      → rising 0 (firsts_in kind l.glyphs l.substitutes) ≡ true → ws ≡ laid_out kind l.flags l.glyphs l.substitutes
      → Readable l × (ws ≡ words_of l)
  of-kind kind z named even up made =
      let all : ws ≡ words_of l = rw z made in
      (record { even = rw z even; named = rw z named; fit = ap fits (sym all) ∙ fit; up = rw z up }, all)

  of-single : SingleRead 0 ws l → Readable l × (ws ≡ words_of l)
  of-single s = of-kind Single s.kind refl (omega (arith, s.even)) s.up s.made

  of-ligature : (n : ℕ) → known (Ligature n) ≡ true → LigatureRead n ws l → Readable l × (ws ≡ words_of l)
  of-ligature n named s = of-kind (Ligature n) s.kind named s.even s.up s.made

  was_written : scan ws ≡ fine l → Readable l × (ws ≡ words_of l)
  unfolding scan
  was_written e = first_of (further-back (single_scan 0 ws) (further (ligature_scan 2 ws) (ligature_scan 3 ws)) l e)
    where
      second-of : (ligature_scan 2 ws ≡ fine l) ⊎ (ligature_scan 3 ws ≡ fine l) → Readable l × (ws ≡ words_of l)
      second-of (inl e) = of-ligature 2 refl (ligature-back 2 (omega arith) ws l e)
      second-of (inr e) = of-ligature 3 refl (ligature-back 3 (omega arith) ws l e)

      first_of : (single_scan 0 ws ≡ fine l) ⊎ (further (ligature_scan 2 ws) (ligature_scan 3 ws) ≡ fine l) → Readable l × (ws ≡ words_of l)
      first_of (inl e) = of-single (single-back 0 ws l e)
      first_of (inr e) = second-of (further-back (ligature_scan 2 ws) (ligature_scan 3 ws) l e)

  pub read-is-written : scan ws ≡ fine l → IsWritten ws l
  read-is-written e =
      let m = was_written e in
      record { readable = m.0; made = m.1; same = same-fine (as_read l) l (sym (accepted-written l m.0) ∙ ap scan (sym m.1) ∙ e) }

-- ---- bytes
reading-words : (ws : List ℕ) → reading (bytes ws) ≡ scan ws
unfolding reading
reading-words ws = rw (length-bytes ws, even (length ws), half (length ws)) (ap scan (read_back ws))
  where
    even : (n : ℕ) → 2 * n % 2 ≡ 0
    even n = omega arith

    half : (n : ℕ) → 2 * n / 2 ≡ n
    half n = omega arith

pub bytes-accepted : (l : Lookup) → Readable l → reading (bytes (words_of l)) ≡ fine (as_read l)
bytes-accepted l r = reading-words (words_of l) ∙ accepted-written l r

-- an odd number of bytes is not read, and else they are words
reading-back : (b : List ℕ) (l : Lookup) → reading b ≡ fine l → (length b ≡ 2 * (length b / 2)) × (scan (words_at b 0 (length b / 2)) ≡ fine l)
unfolding reading
reading-back b l e = go (eqb (length b % 2) 0) refl (scan (words_at b 0 (length b / 2))) e
  where
    go : (t : Bool) → eqb (length b % 2) 0 ≡ t → (s : Scan) → cond t s (left_over s) ≡ fine l → (length b ≡ 2 * (length b / 2)) × (s ≡ fine l)
    go true h s e = (omega (arith, eqb-true (length b % 2) 0 h), e)
    go false h (fine m) e = absurd (wrong-fine 0 l e)
    go false h (wrong n) e = absurd (wrong-fine n l e)
    go false h short e = absurd (short-fine l e)

pub bytes-written : (b : List ℕ) → ((i : ℕ) → get_or b i 0 < 256) → (l : Lookup) → reading b ≡ fine l → (b ≡ bytes (words_of l)) × IsWritten (words_of l) l
bytes-written b h l e =
    let m = reading-back b l e in
    let w = read-is-written (words_at b 0 (length b / 2)) l (fits-lent (words_at b 0 (length b / 2)) (words-fit b h 0 (length b / 2))) m.1 in
    (sym (bytes_read (length b / 2) b m.0 h) ∙ ap bytes w.made, record { readable = w.readable; made = refl; same = w.same })

-- ---- the writer does not refuse
unrefused : (l : Lookup) (room : ℕ) → Readable l → 2 * length (words_of l) ≤ room → write_refusal l room ≡ 0
unfolding write_refusal
unrefused l room r h = rw (eq-eqb (length l.glyphs) (length l.substitutes * width l.kind) r.even, r.named, r.fit, le-ltb room (2 * length (words_of l)) h)

readable : (l : Lookup) (room : ℕ) → write_refusal l room ≡ 0 → rising 0 (firsts l) ≡ true → Readable l
unfolding write_refusal
readable l room e up =
    let a = first-none 0 (not (eqb (length l.glyphs) (length l.substitutes * width l.kind))) (drop 1 (write_rows l room)) e in
    let b = first-none 2 (not (known l.kind)) (drop 2 (write_rows l room)) a.1 in
    let c = first-none 4 (not (fits (words_of l))) (drop 3 (write_rows l room)) b.1 in
    record {
      even = eqb-true (length l.glyphs) (length l.substitutes * width l.kind) (not-false _ a.0);
      named = not-false _ b.0;
      fit = not-false _ c.0;
      up = up;
    }

pub exact : (b : List ℕ) → ((i : ℕ) → get_or b i 0 < 256) → Exact b
exact b h = (on, back)
  where
    on : Accepted b → Written b
    on a =
        let m = bytes-written b h a.0 a.1 in
        let r = m.1.readable in (
          a.0,
          record {
            unrefused = unrefused a.0 (length b) r (omega (arith, ap length m.0, length-bytes (words_of a.0)));
            made = m.0;
            up = r.up;
          },
        )

    back : Written b → Accepted b
    back w = (as_read w.0, ap reading w.1.made ∙ bytes-accepted w.0 (readable w.0 (length b) w.1.unrefused w.1.up))
