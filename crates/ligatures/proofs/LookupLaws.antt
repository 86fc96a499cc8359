-- The whole lookup, as it is written: head and coverage are there first, then offsets, leaders and sets are placed around the coverage. Its length (`lookup-long`); that the head fits (`head-fits`); that there is room for the sets (`sets-room`); that all of it makes the lookup (`lookup-written`).
-- Assumes nothing.
use mathlib.Core.Path.{◌≡◌, sym, ap, ◌∙◌}
use mathlib.Core.Bool.{true}
use mathlib.Core.List.{List, [], ◌∷◌, ◌++◌, map, append_assoc}
use Prim.Native.Nat.{ℕ, ◌+◌, ◌-◌, ◌*◌, ◌<◌, ◌≤◌}
use native.Mathlib.Omega.{arith}
use lib.ListN.{length, length-append, length-map}
use Rattle.laws.specs.Lists.{pasted}
use Rattle.laws.proofs.PasteLaws.{length-pasted, paste_none, paste_before}
use Rattle.words.specs.Words.{bytes, Wrote}
use Rattle.words.proofs.WordLaws.{length-bytes, bytes-append}
use Rattle.words.proofs.WroteLaws.{ended, paste_words}
use Rattle.layouts.specs.Tables.{Rule, leader, offsets, joined, set_words, ligature_of, ligature}
use Rattle.layouts.specs.Lookups.{rules, fits}
use Rattle.layouts.proofs.FitLaws.{fits_head, fits-parts}
use Rattle.layouts.proofs.SizeLaws.{length-offsets}
use Rattle.ligatures.specs.Places.{sets_from}
use Rattle.ligatures.specs.Sets.{placed, set_offsets, set_leaders, set_blocks, SetsRoom}

-- of five parts, one behind the other, the first and the third are there, and the others are placed around the third
module _ (lent hs bs cs ds es : List ℕ) (b c d e : ℕ) (at_b : b ≡ 2 * length hs) (at_c : c ≡ b + 2 * length bs) (at-d : d ≡ c + 2 * length cs) (at-e : e ≡ d + 2 * length ds) (room : e + 2 * length es ≤ length lent) where
  around : placed (pasted (bytes cs) c (pasted (bytes hs) 0 lent)) b bs d ds e es ≡ pasted (bytes (hs ++ (bs ++ (cs ++ (ds ++ es))))) 0 lent
  around =
      let front : List ℕ = pasted (bytes hs) 0 lent in
      let long : length front ≡ length lent = length-pasted (bytes hs) 0 lent (omega (arith, length-bytes hs)) in
      let two : List ℕ = bs ++ cs in
      let three : List ℕ = two ++ ds in
      let long-two = length-append bs cs in
      let long-three = length-append two ds in
      let long-all = length-append three es in
      let middle : pasted (bytes bs) b (pasted (bytes cs) c front) ≡ pasted (bytes two) b front =
      paste_before (bytes bs) (bytes cs) front b c (omega (arith, length-bytes bs)) (omega (arith, length-bytes cs)) ∙ ap (λ (x : List ℕ). pasted x b front) (sym (bytes-append bs cs))
      in
      ap (λ (x : List ℕ). pasted (bytes es) e (pasted (bytes ds) d x)) middle
      ∙ ap (pasted (bytes es) e) (paste_words front b two ds d (omega arith) (omega arith))
      ∙ paste_words front b three es e (omega arith) (omega arith)
      ∙ paste_words lent 0 hs (three ++ es) b (omega arith) (omega arith)
      ∙ ap (λ (x : List ℕ). pasted (bytes (hs ++ x)) 0 lent) (append_assoc two ds es ∙ append_assoc bs cs (ds ++ es))

-- ---- the parts of a lookup of s sets
module _ (flags n : ℕ) (gs : List (List Rule)) (s : ℕ) (many : s ≡ length gs) where
  lookup-words :
      ligature_of flags n gs
      ≡ (4 ∷ flags ∷ 1 ∷ 8 ∷ 1 ∷ (6 + 2 * s) ∷ s ∷ []) ++ (offsets (10 + 4 * s) (map (set_words n) gs) ++ ((1 ∷ s ∷ []) ++ (map leader gs ++ joined (map (set_words n) gs))))
  unfolding ligature_of
  lookup-words = rw (length-map, ← many)

  long : length (ligature_of flags n gs) ≡ 9 + (s + s + length (joined (map (set_words n) gs)))
  long =
      omega (
        arith,
        ap length lookup-words,
        length-append (offsets (10 + 4 * s) (map (set_words n) gs)) ((1 ∷ s ∷ []) ++ (map leader gs ++ joined (map (set_words n) gs))),
        length-append (map leader gs) (joined (map (set_words n) gs)),
        length-offsets (10 + 4 * s) (map (set_words n) gs),
        length-map gs (set_words n),
        length-map gs leader,
      )

  module _ (f : fits (ligature_of flags n gs) ≡ true) where
    behind-head :
        (6 + 2 * s < 65536) × (fits (offsets (10 + 4 * s) (map (set_words n) gs) ++ ((1 ∷ s ∷ []) ++ (map leader gs ++ joined (map (set_words n) gs)))) ≡ true)
    behind-head =
        let h = (fits-parts (4 ∷ flags ∷ 1 ∷ 8 ∷ 1 ∷ []) ((6 + 2 * s) ∷ s ∷ (offsets (10 + 4 * s) (map (set_words n) gs) ++ ((1 ∷ s ∷ []) ++ (map leader gs ++ joined (map (set_words n) gs))))) (rw lookup-words at f)).1 in
        let k = fits_head (6 + 2 * s) (s ∷ (offsets (10 + 4 * s) (map (set_words n) gs) ++ ((1 ∷ s ∷ []) ++ (map leader gs ++ joined (map (set_words n) gs))))) h in
        (k.0, (fits_head s _ k.1).1)

    parts-fit : (fits (offsets (10 + 4 * s) (map (set_words n) gs)) ≡ true) × (fits (joined (map (set_words n) gs)) ≡ true)
    parts-fit =
        let p = fits-parts (offsets (10 + 4 * s) (map (set_words n) gs)) ((1 ∷ s ∷ []) ++ (map leader gs ++ joined (map (set_words n) gs))) behind-head.1 in
        let q = fits-parts (1 ∷ s ∷ []) (map leader gs ++ joined (map (set_words n) gs)) p.1 in
        (p.0, (fits-parts (map leader gs) (joined (map (set_words n) gs)) q.1).1)

-- ---- the lookup of two columns
module _ (flags n : ℕ) (cs ls : List ℕ) (s : ℕ) (many : s ≡ length (sets_from n cs ls 0)) where
  pub lookup-long : length (ligature flags n (rules n cs ls)) ≡ 9 + (s + s + length (set_blocks n cs ls 0))
  unfolding ligature
  lookup-long = long flags n (sets_from n cs ls 0) s many

  module _ (f : fits (ligature flags n (rules n cs ls)) ≡ true) where
    -- the coverage's offset, and so the count
    pub head-fits : 6 + 2 * s < 65536
    unfolding ligature
    head-fits = (behind-head flags n (sets_from n cs ls 0) s many f).0

    -- the places are those that the head and the coverage leave
    module _ {lent : List ℕ} (room : 2 * length (ligature flags n (rules n cs ls)) ≤ length lent) {first-area : List ℕ} {a : ℕ} {area : List ℕ} {b : ℕ} {cover : ℕ} (p : Wrote lent 0 (4 ∷ flags ∷ 1 ∷ 8 ∷ 1 ∷ cover ∷ s ∷ []) first-area a []) (c : cover ≡ 6 + 2 * s) (q : Wrote first-area (a + 2 * s) (1 ∷ s ∷ []) area b []) where
      at-offsets : a ≡ 14
      at-offsets = omega (arith, p.place)

      at_leaders : b ≡ 18 + 2 * s
      at_leaders = omega (arith, at-offsets, q.place)

      at-sets : b + 2 * s - 8 ≡ 10 + 4 * s
      at-sets = omega (arith, at_leaders)

      pub sets-room : SetsRoom n cs ls area 0 a b (b + 2 * s)
      unfolding ligature
      sets-room =
          let gs = sets_from n cs ls 0 in
          let fit = parts-fit flags n gs s many f in
          record {
            begins = omega (arith, at_leaders);
            offsets-fit = rw at-sets fit.0;
            sets-fit = fit.1;
            apart =
                record {
                  first_ends = omega (arith, at-offsets, at_leaders, length-offsets (b + 2 * s - 8) (map (set_words n) gs), length-map gs (set_words n));
                  second-ends = omega (arith, length-map gs leader);
                  third_ends = omega (arith, at_leaders, lookup-long, p.same, q.same);
                };
          }

      pub lookup-written :
          {left : List ℕ} {end : ℕ} → end ≡ b + 2 * s + 2 * length (set_blocks n cs ls 0) → left ≡ placed area a (set_offsets n cs ls 0 (b + 2 * s)) b (set_leaders n cs ls 0) (b + 2 * s) (set_blocks n cs ls 0)
          → Wrote lent 0 (ligature flags n (rules n cs ls)) left end []
      unfolding ligature bytes
      lookup-written {left} {end} e m =
          let gs = sets_from n cs ls 0 in
          let firsts : List ℕ = offsets (10 + 4 * s) (map (set_words n) gs) in
          let count : length firsts ≡ s = omega (arith, length-offsets (10 + 4 * s) (map (set_words n) gs), length-map gs (set_words n)) in
          let there : left ≡ pasted (bytes (ligature flags n (rules n cs ls))) 0 lent =
          rw at-sets at m
          ∙ ap (λ (x : List ℕ). placed x a firsts b (set_leaders n cs ls 0) (b + 2 * s) (set_blocks n cs ls 0)) (ended q ∙ ap (pasted (bytes (1 ∷ s ∷ [])) (a + 2 * s)) (ended p ∙ ap (λ (k : ℕ). pasted (bytes (4 ∷ flags ∷ 1 ∷ 8 ∷ 1 ∷ k ∷ s ∷ [])) 0 lent) c))
          ∙ around lent (4 ∷ flags ∷ 1 ∷ 8 ∷ 1 ∷ (6 + 2 * s) ∷ s ∷ []) firsts (1 ∷ s ∷ []) (set_leaders n cs ls 0) (set_blocks n cs ls 0) a (a + 2 * s) b (b + 2 * s) (omega (arith, at-offsets)) (omega arith) (omega (arith, at-offsets, at_leaders)) (omega (arith, length-map gs leader)) (omega (arith, at_leaders, lookup-long))
          ∙ ap (λ (x : List ℕ). pasted (bytes x) 0 lent) (sym (lookup-words flags n gs s many))
          in
          record {
            room = omega arith;
            place = omega (arith, at_leaders, lookup-long);
            same = ap length there ∙ length-pasted (bytes (ligature flags n (rules n cs ls))) 0 lent (omega (arith, length-bytes (ligature flags n (rules n cs ls))));
            made = paste_none end left ∙ there;
          }
