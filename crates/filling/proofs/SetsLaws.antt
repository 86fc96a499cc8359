-- The loop over the sets: what it knows before each of them (`Filling`), at the beginning (`filling_begins`), that there is room for the next (`filling_fits`), from one to the next (`filling_next`), and at the end (`filling_ends`).
-- Assumes nothing.
use mathlib.Core.Path.{◌≡◌, refl, sym, ap, ◌∙◌}
use mathlib.Core.List.{List, ◌++◌, map-append}
use Prim.Native.Nat.{ℕ, ◌+◌, ◌-◌, ◌*◌, ◌≤◌, ◌<◌}
use native.Mathlib.Omega.{arith}
use lib.ListN.{length, length-append, length-map}
use Rattle.laws.specs.Lists.{pasted}
use Rattle.laws.proofs.PasteLaws.{length-pasted, paste_none, paste_behind}
use Rattle.words.specs.Words.{word_at, words_at}
use Rattle.words.proofs.WordLaws.{length-words}
use Rattle.layouts.specs.Tables.{Rule}
use Rattle.layouts.specs.Lookups.{flat, ligatures as ligatures_of}
use Rattle.layouts.proofs.FlatLaws.{flat_append}
use Rattle.scanning.specs.Grammar.{set_size}
use Rattle.grouping.specs.Grouped.{rules_at, sets_at, end_at, leads_at}
use Rattle.grouping.proofs.GoingLaws.{end-next}
use Rattle.filling.specs.Filled.{Filled}
use Rattle.filling.proofs.RuleLaws.{length-rules, length-parts, sets-next, end_is}

-- before a set at byte p, with it and others to come: their rules, written over what is there, make what all of them were to make
pub record Filling (n s : ℕ) (b components ligatures : List ℕ) (left leads p x i : ℕ) (now here : List ℕ) : Type 0 where
  pub places : leads + 2 * left ≡ 18 + 4 * s
  pub ends : end_at n (words_at b leads left) b p ≡ end_at n (leads_at s b) b (18 + 4 * s)
  pub long : length now ≡ length components
  pub wide : length here ≡ length ligatures
  pub room : x + length (flat (sets_at n (words_at b leads left) b p)) ≤ length now
  pub space : i + length (sets_at n (words_at b leads left) b p) ≤ length here
  pub parts : pasted (flat (sets_at n (words_at b leads left) b p)) x now ≡ pasted (flat (sets_at n (leads_at s b) b (18 + 4 * s))) 0 components
  pub wholes : pasted (ligatures_of (sets_at n (words_at b leads left) b p)) i here ≡ pasted (ligatures_of (sets_at n (leads_at s b) b (18 + 4 * s))) 0 ligatures

module _ (n s : ℕ) (b components ligatures : List ℕ) where
  pub filling_begins :
      length (flat (sets_at n (leads_at s b) b (18 + 4 * s))) ≤ length components → length (sets_at n (leads_at s b) b (18 + 4 * s)) ≤ length ligatures
      → Filling n s b components ligatures s (18 + 2 * s) (18 + 4 * s) 0 0 components ligatures
  filling_begins h k = record { places = omega arith; ends = refl; long = refl; wide = refl; room = omega (arith, h); space = omega (arith, k); parts = refl; wholes = refl }

  module _ (left leads p x i : ℕ) (now here : List ℕ) (g : Filling n s b components ligatures left leads p x i now here) where
    pub filling_ends : left ≡ 0 → Filled (sets_at n (leads_at s b) b (18 + 4 * s)) components 0 ligatures 0 now here
    unfolding sets_at words_at flat
    filling_ends z =
        record {
          parts = sym (paste_none x now) ∙ ap (λ (m : ℕ). pasted (flat (sets_at n (words_at b leads m) b p)) x now) (sym z) ∙ g.parts;
          wholes = sym (paste_none i here) ∙ ap (λ (m : ℕ). pasted (ligatures_of (sets_at n (words_at b leads m) b p)) i here) (sym z) ∙ g.wholes;
        }

    module _ (h : 0 < left) (low : 0 < n) (within : end_at n (leads_at s b) b (18 + 4 * s) ≤ length b) where
      one : left ≡ left - 1 + 1
      one = omega arith

      -- the count is in the bytes, and so is the first glyph
      pub filling_reads : (p + 2 ≤ length b) × (leads + 2 ≤ length b)
      filling_reads =
          let e = end_is n (words_at b leads left) b p in
          let m = length-words b leads left in (
            omega (arith, g.ends, within, e, m, h),
            omega (arith, g.places, within, end_is n (leads_at s b) b (18 + 4 * s), h),
          )

      module _ (c lead : ℕ) (count : c ≡ word_at b p) (first : lead ≡ word_at b leads) where
        abbrev rs : List Rule
        rs = rules_at n lead c b (p + 2 + 2 * c)

        abbrev others : List Rule
        others = sets_at n (words_at b (leads + 2) (left - 1)) b (p + set_size n c)

        split : sets_at n (words_at b leads left) b p ≡ rs ++ others
        split = ap (λ (m : ℕ). sets_at n (words_at b leads m) b p) one ∙ sets-next n b leads p (left - 1) ∙ rw (count, first)

        ends_on : end_at n (words_at b (leads + 2) (left - 1)) b (p + set_size n c) ≡ end_at n (leads_at s b) b (18 + 4 * s)
        ends_on = rw count (sym (end-next n b leads p (left - 1))) ∙ ap (λ (m : ℕ). end_at n (words_at b leads m) b p) (sym one) ∙ g.ends

        -- the set is in the bytes, and its rules have room
        pub filling_fits : (p + set_size n c ≤ length b) × ((x + c * n + length (flat others) ≤ length now) × (i + c + length others ≤ length here))
        filling_fits =
            let flats = ap length (ap flat split ∙ flat_append rs others) ∙ length-append (flat rs) (flat others) in
            let lengths = ap length split ∙ length-append rs others in (
              omega (arith, end_is n (words_at b (leads + 2) (left - 1)) b (p + set_size n c), ends_on, within),
              (omega (arith, g.room, flats, length-parts n lead c b (p + 2 + 2 * c) low), omega (arith, g.space, lengths, length-rules n lead c b (p + 2 + 2 * c))),
            )

        pub filling_next : (d t : List ℕ) → Filled rs now x here i d t → Filling n s b components ligatures (left - 1) (leads + 2) (p + set_size n c) (x + c * n) (i + c) d t
        filling_next d t f =
            let fits = filling_fits in
            let flats : length (flat rs) ≡ c * n = length-parts n lead c b (p + 2 + 2 * c) low in
            let lengths : length (ligatures_of rs) ≡ c = length-map rs _ ∙ length-rules n lead c b (p + 2 + 2 * c) in
            let others-long : length (ligatures_of others) ≡ length others = length-map others _ in
            let same : length d ≡ length now = ap length f.parts ∙ length-pasted (flat rs) x now (omega (arith, flats, fits.1.0)) in
            let alike : length t ≡ length here = ap length f.wholes ∙ length-pasted (ligatures_of rs) i here (omega (arith, lengths, fits.1.1)) in
            record {
              places = omega (arith, g.places, h);
              ends = ends_on;
              long = same ∙ g.long;
              wide = alike ∙ g.wide;
              room = omega (arith, same, fits.1.0);
              space = omega (arith, alike, fits.1.1);
              parts =
                  ap (pasted (flat others) (x + c * n)) f.parts
                  ∙ paste_behind (flat rs) (flat others) now x (x + c * n) (ap (λ (m : ℕ). x + m) (sym flats)) (omega (arith, fits.1.0))
                  ∙ ap (λ (l : List ℕ). pasted l x now) (sym (ap flat split ∙ flat_append rs others))
                  ∙ g.parts;
              wholes =
                  ap (pasted (ligatures_of others) (i + c)) f.wholes
                  ∙ paste_behind (ligatures_of rs) (ligatures_of others) here i (i + c) (ap (λ (m : ℕ). i + m) (sym lengths)) (omega (arith, others-long, fits.1.1))
                  ∙ ap (λ (l : List ℕ). pasted l i here) (sym (ap ligatures_of split ∙ map-append _ rs others))
                  ∙ g.wholes;
            }
