-- Drafts: one without entries (`begun-drafted`); a lookup that is written behind the others is an entry more (`written-part`, `pushed`); nothing added (`none-added`); where the bytes of a draft end (`drafted-inside`). How far a plan has come, which is made of several lookups (`reached-begin`, `reached-more`), and what is asked of the next (`reached-room`); the entry of rules that are listed in two columns (`rules-added`).
-- Assumes nothing.
use mathlib.Core.Path.{◌≡◌, refl, sym, ap, ◌∙◌}
use mathlib.Core.Bool.{cond, or-false}
use mathlib.Core.List.{List, [], ◌∷◌, ◌++◌, append_assoc, append-nil}
use Prim.Native.Nat.{ℕ, ◌+◌, ◌*◌, ◌-◌, ◌<◌, ◌≤◌}
use native.Mathlib.Omega.{arith}
use borrow.Author.Tests.{ne_eqb}
use lib.Dec.{eqb}
use lib.ListN.{length, take, drop, length-append, length-take, length-drop}
use lib.Seq.{take_at, take_all, length-take-le}
use borrow.Rule.Slice.PartMut.{mid_of, put_mid, post_of}
use Rattle.refusals.proofs.LeftLaws.{left-number, left-accepted}
use Rattle.words.specs.Words.{bytes}
use Rattle.words.proofs.WordLaws.{length-bytes}
use Rattle.layouts.specs.declared.Kind.{Kind}
use Rattle.refusals.specs.Numbers.{said}
use Rattle.layouts.specs.Tables.{Rule}
use Rattle.layouts.specs.Lookups.{Lookup, lookup_of, flat, ligatures, words_of}
use Rattle.layouts.specs.Written.{WriteOutcome, write_outcome, write_refusal, Written, length_said, Writing}
use Rattle.drafts.specs.declared.Draft.{Draft}
use Rattle.drafts.specs.Entries.{Entry, entry, size_of, bytes_of, all_bytes, most}
use Rattle.drafts.specs.Drafted.{begun, noted, Drafted, Reached, Roomy, Added}
use Rattle.drafts.proofs.EntryLaws.{all_more, pad_more}

pub begun-drafted : (scratch : List ℕ) → Drafted [] begun scratch
unfolding all_bytes
begun-drafted scratch = record { counted = refl; masked = refl; measured = refl; ends = refl; holds = refl }

-- the bytes of a draft are in what was lent
pub drafted-inside : {entries : List Entry} (d : Draft) (scratch : List ℕ) → Drafted entries d scratch → d.end ≤ length scratch
drafted-inside d scratch p = omega (arith, p.ends, ap length p.holds, length-take d.end scratch)

pub none-added : (most : ℕ) (d : Draft) (scratch : List ℕ) → Added [] most d scratch d scratch
none-added most d scratch =
    record { few = omega arith; short = omega arith; then = λ es p. rw (append-nil es) p }

-- a lookup that is not refused, written from byte a on
module _ (l : Lookup) (a : ℕ) (scratch : List ℕ) (h : a ≤ length scratch) (r : Written) (part : List ℕ) where
  abbrev lent : List ℕ
  lent = mid_of a (length scratch - a) scratch

  length-lent : length lent ≡ length scratch - a
  length-lent = ap length (take_all (length scratch - a) (drop a scratch) (omega (arith, length-drop a scratch))) ∙ length-drop a scratch

  module _ (free : write_refusal l (length scratch - a) ≡ 0) (w : Writing l lent r part) where
    passed : write_refusal l (length lent) ≡ 0
    passed = ap (write_refusal l) length-lent ∙ free

    all-written : write_outcome (length_said r) part ≡ write_outcome (2 * length (words_of l)) (bytes (words_of l) ++ drop (2 * length (words_of l)) lent)
    all-written = left-accepted (write_refusal l (length lent)) _ _ (said r) _ w (left-number (write_refusal l (length lent)) _ _ (said r) _ w ∙ passed)

    pub length-written : length_said r ≡ length (bytes (words_of l))
    length-written = ap (λ (o : WriteOutcome). o.count) all-written ∙ sym (length-bytes (words_of l))

    part-written : part ≡ bytes (words_of l) ++ drop (2 * length (words_of l)) lent
    part-written = ap (λ (o : WriteOutcome). o.area) all-written

    -- its bytes stand behind those that were there
    pub behind-others : take (a + length_said r) (put_mid a (length scratch - a) scratch part) ≡ take a scratch ++ bytes (words_of l)
    behind-others =
        let T = take a scratch in
        let B = bytes (words_of l) in
        let D = drop (2 * length (words_of l)) lent in
        let E = post_of a (length scratch - a) scratch in
        let cut : T ++ (part ++ E) ≡ (T ++ B) ++ (D ++ E) =
        ap (λ (p : List ℕ). T ++ (p ++ E)) part-written ∙ ap (λ (m : List ℕ). T ++ m) (append_assoc B D E) ∙ sym (append_assoc T B (D ++ E))
        in
        let long : length (T ++ B) ≡ a + length_said r = length-append T B ∙ rw (length-take-le a scratch h, length-written) in
        ap (take (a + length_said r)) cut ∙ take_at (T ++ B) (D ++ E) (a + length_said r) long

-- an entry more, its lookup written behind the others
module _ (l : Lookup) (mask : ℕ) (d : Draft) (scratch : List ℕ) (h : d.end ≤ length scratch) (r : Written) (part : List ℕ) where
  abbrev new : Entry
  new = record { mask = mask; lookup = l }

  pub pushed :
      write_refusal l (length scratch - d.end) ≡ 0 → Writing l (mid_of d.end (length scratch - d.end) scratch) r part → d.count < 7
      → (bound : ℕ) → 2 * length (words_of l) ≤ bound → (d' : Draft) → d' ≡ noted d mask (length_said r)
      → Added (new ∷ []) bound d scratch d' (put_mid d.end (length scratch - d.end) scratch part)
  pushed free w c bound short d' e =
      let n : length_said r ≡ size_of new = length-written l d.end scratch h r part free w in
      let there = behind-others l d.end scratch h r part free w in
      rw e
      (record {
        few = omega arith;
        short = omega (arith, length-bytes (words_of l));
        then = λ es p.
            record {
              counted = ap (λ (k : ℕ). k + 1) p.counted ∙ sym (length-append es (new ∷ []));
              masked = rw (p.masked, p.counted) (pad_more (λ x. x.mask) es new (omega (arith, p.counted)));
              measured = rw (p.measured, p.counted, n) (pad_more size_of es new (omega (arith, p.counted)));
              ends = rw (p.ends, n) (sym (ap length (all_more es new) ∙ length-append (all_bytes es) (bytes_of new)));
              holds = there ∙ rw p.holds (sym (all_more es new));
            };
      })

-- ---- one lookup behind the other
pub reached-begin : (d : Draft) (scratch : List ℕ) → d ≡ begun → Reached [] 0 0 (length scratch) d scratch
reached-begin d scratch e = rw e (record { few = omega arith; short = omega arith; sized = refl; drafted = begun-drafted scratch })

module _ {entries : List Entry} {count b size : ℕ} {d : Draft} {scratch : List ℕ} (p : Reached entries count b size d scratch) where
  pub reached-more :
      {new : List Entry} {bound : ℕ} {d' : Draft} {scratch' : List ℕ} → Added new bound d scratch d' scratch' → length scratch' ≡ length scratch
      → Reached (entries ++ new) (count + 1) (b + bound) size d' scratch'
  reached-more a e = record { few = omega (arith, p.few, a.few); short = omega (arith, p.short, a.short); sized = e ∙ p.sized; drafted = a.then entries p.drafted }

  pub reached-room : count < 7 → (kind : Kind) → b + most kind ≤ size → size < 4294967296 → Roomy kind d scratch
  reached-room c kind h s = record { place = omega (arith, p.few); room = omega (arith, p.short, p.sized); bounded = omega (arith, p.sized) }

-- "zero masks skipped": where there are rules, only the mask decides
pub rules-added :
    (mask flags : ℕ) (kind : Kind) (rules : List Rule) → 0 < length rules → (glyphs substitutes : List ℕ) → flat rules ≡ glyphs → ligatures rules ≡ substitutes
    → {bound : ℕ} {d d' : Draft} {scratch scratch' : List ℕ}
    → Added (cond (eqb mask 0) [] (record { mask = mask; lookup = lookup_of flags kind glyphs substitutes } ∷ [])) bound d scratch d' scratch'
    → Added (entry mask flags kind rules) bound d scratch d' scratch'
rules-added mask flags kind rules h glyphs substitutes e f a = rw (ne_eqb (length rules) 0 (λ z. omega arith), or-false (eqb mask 0), e, f) a
