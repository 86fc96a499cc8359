-- Of ligature lookups of n components: the scan takes those that fit and whose first glyphs do not fall (`ligature-on`), and no other (`ligature-back`, `LigatureRead`).
-- Assumes nothing.
use mathlib.Core.Path.{◌≡◌, refl, sym, ap, ◌∙◌}
use mathlib.Core.Bool.{true}
use mathlib.Core.List.{List, [], ◌∷◌, ◌++◌, map, flatten}
use Prim.Native.Nat.{ℕ, zero, suc, ◌+◌, ◌-◌, ◌*◌, ◌<◌, ◌≤◌}
use native.Mathlib.Nat.{mul-le-mul_right, zero-mul}
use native.Mathlib.Omega.{arith}
use borrow.Author.Tests.{lt-ltb, ltb-true}
use lib.ListN.{length, get_or, length-map}
use Rattle.refusals.specs.Columns.{rising}
use Rattle.layouts.specs.declared.Kind.TheVariants.{Ligature}
use Rattle.layouts.specs.Tables.{Rule, first, leader, sets, offsets, joined, rule_words, set_words, ligature_of, ligature}
use Rattle.layouts.specs.Lookups.{Lookup, lookup_of, rules, flat, ligatures as ligatures_of, fits}
use Rattle.layouts.proofs.FitLaws.{fits-parts, fits_head}
use Rattle.layouts.proofs.SetLaws.{wide-rules, Grouped, grouped, set-size, set-fits}
use Rattle.layouts.proofs.FlatLaws.{length-flat, rules-flat, flat-rules, ligatures-rules}
use Rattle.layouts.proofs.SizeLaws.{length-offsets}
use Rattle.scanning.specs.Scans.{Rest, fine, any, exactly, end}
use Rattle.scanning.specs.Grammar.{headed, counted, covered, set_size, most_rules, most_sets, is_size_lem, starts, ligature_scan}
use Rattle.scanning.proofs.TakeLaws.{Takes, two-takes, behind-takes, passed, ends, ended}
use Rattle.scanning.proofs.HeadLaws.{headed-takes, counted-takes, covered-takes}
use Rattle.scanning.proofs.GroupLaws.{Led, led_sets, flatten_sets, sets_flatten, leaders_rise, firsts-rise, wide_flatten}
use Rattle.scanning.proofs.SizeLaws.{in_most_rules, in_most_sets, size-on}
use Rattle.scanning.proofs.PlaceLaws.{spaced, Spaced, spaced-apart, starts-takes, grouping, settled-grouping, Sound, Placed, grouping-takes}

-- flags, how many sets, where they begin, their first glyphs, the sets
abbrev Parts : Type 0
Parts = ℕ × (ℕ × (List ℕ × (List ℕ × List (List Rule))))

-- what is read: a ligature lookup of n components, whose columns belong together, whose first glyphs do not fall, and whose words these are
pub record LigatureRead (n : ℕ) (ws : List ℕ) (l : Lookup) : Type 0 where
  pub kind : l.kind ≡ Ligature n
  pub even : length l.glyphs ≡ length l.substitutes * n
  pub up : rising 0 (map first (rules n l.glyphs l.substitutes)) ≡ true
  pub made : ws ≡ ligature l.flags n (rules n l.glyphs l.substitutes)

module _ (n : ℕ) where
  -- what is said by flags and sets
  abbrev said_by : ℕ → List (List Rule) → Lookup
  said_by flags groups = lookup_of flags (Ligature n) (flat (flatten groups)) (ligatures_of (flatten groups))

  scan_groups :
      ligature_scan n
      ≡ headed 4 (λ flags. exactly (1 ∷ []) (counted (most_sets n) (λ s. starts n s (λ os. covered 1 s (λ leads. grouping n leads os (λ groups. end (said_by flags groups)))))))
  unfolding ligature_scan
  scan_groups =
      λ i. headed 4 (λ flags. exactly (1 ∷ []) (counted (most_sets n) (λ s. starts n s (λ os. covered 1 s (λ leads.
      settled-grouping n leads os (λ rules. end (lookup_of flags (Ligature n) (flat rules) (ligatures_of rules))) i)))))

  abbrev Good : Parts → Type 0
  Good p =
      let s = p.1.0 in
      let os = p.1.1.0 in
      let leads = p.1.1.1.0 in
      (any p.0 ≡ true)
      × ((s ≤ most_sets n) × (((length os ≡ s) × Spaced n s os) × (((length leads ≡ s) × (rising 1 leads ≡ true) × (fits leads ≡ true)) × Placed n leads os p.1.1.1.1)))

  abbrev words_in : Parts → List ℕ
  words_in p =
      4 ∷ p.0 ∷ 1 ∷ 8 ∷ 1 ∷ (6 + 2 * p.1.0) ∷ p.1.0 ∷ (p.1.1.0 ++ (1 ∷ p.1.0 ∷ (p.1.1.1.0 ++ joined (map (set_words n) p.1.1.1.1))))

  module _ (low : 0 < n) where
    ligature-takes :
        Takes Good words_in
        (λ k. headed 4 (λ flags. exactly (1 ∷ []) (counted (most_sets n) (λ s. starts n s (λ os. covered 1 s (λ leads. grouping n leads os (λ groups. k (flags, (s, (os, (leads, groups)))))))))))
    ligature-takes =
        two-takes (headed-takes 4)
        (λ flags f. behind-takes (1 ∷ [])
        (two-takes (counted-takes (most_sets n))
        (λ s c. two-takes (starts-takes n s) (λ os b. two-takes (covered-takes 1 s) (λ leads d. grouping-takes n low leads os (d.0 ∙ sym b.0) (spaced-apart n s os b.1))))))

    -- ---- forward
    length-begins : (o : ℕ) (groups : List (List Rule)) → length (offsets o (map (set_words n) groups)) ≡ length groups
    length-begins o groups = length-offsets o (map (set_words n) groups) ∙ length-map groups (set_words n)

    -- a set takes at least the bytes of one rule, so the last offset leaves room for all before it
    room : (o : ℕ) (g : List Rule) (gs : List (List Rule)) → Sound n (g ∷ gs) → fits (offsets o (map (set_words n) (g ∷ gs))) ≡ true → o + length gs * set_size n 1 < 65536
    unfolding offsets Sound
    room o g [] s e = omega (arith, (fits_head o [] e).0, zero-mul (set_size n 1))
    room o g (h ∷ gs) s e =
        let a = fits_head o (offsets (o + 2 * length (set_words n g)) (map (set_words n) (h ∷ gs))) e in
        omega (arith, room (o + 2 * length (set_words n g)) h gs s.4 a.1, set-size n low g s.2, mul-le-mul_right (4 + 2 * n) s.0)

    spaced-on : (o : ℕ) (g : List Rule) (gs : List (List Rule)) → Sound n (g ∷ gs) → fits (offsets o (map (set_words n) (g ∷ gs))) ≡ true → spaced n o (offsets (o + 2 * length (set_words n g)) (map (set_words n) gs)) ≡ true
    unfolding offsets Sound passed
    spaced-on o g [] s e = refl
    spaced-on o g (h ∷ gs) s e =
        let a = fits_head o (offsets (o + 2 * length (set_words n g)) (map (set_words n) (h ∷ gs))) e in
        let r = room (o + 2 * length (set_words n g)) h gs s.4 a.1 in
        let z = set-size n low g s.2 in
        let fit : is_size_lem n (o + 2 * length (set_words n g) - o) ≡ true = ap (is_size_lem n) (gap o (2 * length (set_words n g)) ∙ z) ∙ size-on n (length g) s.0 s.1 in
        rw (length-begins (o + 2 * length (set_words n g) + 2 * length (set_words n h)) gs, fit, lt-ltb (o + 2 * length (set_words n g) + length gs * set_size n 1) 65536 r)
        (spaced-on (o + 2 * length (set_words n g)) h gs s.4 a.1)
      where
        gap : (o x : ℕ) → o + x - o ≡ x
        gap o x = omega arith

    -- the rules of a set that fits
    bodies_fit : (g : List Rule) → fits (set_words n g) ≡ true → fits (joined (map (rule_words n) g)) ≡ true
    unfolding set_words
    bodies_fit g e = (fits-parts (offsets (2 + 2 * length g) (map (rule_words n) g)) (joined (map (rule_words n) g)) (fits_head (length g) _ e).1).1

    -- the sets of rules of n components are sound if their words fit
    sound : (groups : List (List Rule)) → Grouped n groups → Led groups → fits (joined (map (set_words n) groups)) ≡ true → Sound n groups
    unfolding Grouped Led Sound joined
    sound [] k d e = tt
    sound (g ∷ gs) k d e =
        let a = fits-parts (set_words n g) (joined (map (set_words n) gs)) e in
        (k.0, few (length g) k.0 (ltb-true (length g * (4 + 2 * n)) (65536 + 2 * n) (sym (set-fits n low g k.1 (bodies_fit g a.0) k.0) ∙ a.0)), k.1, d.1, sound gs k.2 d.2 a.1)
      where
        few : (c : ℕ) → 0 < c → c * (4 + 2 * n) < 65536 + 2 * n → c ≤ most_rules n
        few zero h e = absurd (omega arith)
        few (suc c) h e = in_most_rules n c (omega arith)

    -- where they begin
    begun :
        (groups : List (List Rule)) → Sound n groups → fits (offsets (10 + 4 * length groups) (map (set_words n) groups)) ≡ true
        → (length groups ≤ most_sets n) × Spaced n (length groups) (offsets (10 + 4 * length groups) (map (set_words n) groups))
    unfolding Spaced offsets
    begun [] s e = (omega arith, tt)
    begun (g ∷ gs) s e = (in_most_sets n (length gs) (room (10 + 4 * suc (length gs)) g gs s e), (refl, spaced-on (10 + 4 * suc (length gs)) g gs s e))

    offsets-begin : (o : ℕ) (blocks : List (List ℕ)) → offsets o blocks ≡ offsets (get_or (offsets o blocks) 0 0) blocks
    unfolding offsets
    offsets-begin o [] = refl
    offsets-begin o (block ∷ blocks) = refl

    groups_on :
        (flags : ℕ) (groups : List (List Rule)) → Grouped n groups → Led groups → rising 1 (map leader groups) ≡ true → fits (ligature_of flags n groups) ≡ true
        → ligature_scan n (ligature_of flags n groups) ≡ fine (said_by flags groups)
    unfolding ligature_of
    groups_on flags groups k d up e =
        let s : ℕ = length groups in
        let os : List ℕ = offsets (10 + 4 * s) (map (set_words n) groups) in
        let leads : List ℕ = map leader groups in
        let blocks : List ℕ = joined (map (set_words n) groups) in
        let a = fits-parts os (1 ∷ length leads ∷ (leads ++ blocks)) (fits-parts (4 ∷ flags ∷ 1 ∷ 8 ∷ 1 ∷ (6 + 2 * s) ∷ s ∷ []) (os ++ (1 ∷ length leads ∷ (leads ++ blocks))) e).1 in
        let b = fits-parts (1 ∷ length leads ∷ leads) blocks a.1 in
        let fine-sets = sound groups k d b.1 in
        let begin = begun groups fine-sets a.0 in
        ap (λ (r : Rest). r (ligature_of flags n groups)) scan_groups
        ∙ rw (length-map groups leader)
        (ends ligature-takes (λ p. said_by p.0 p.1.1.1.1) (flags, (s, (os, (leads, groups)))) (
          refl,
          (
            begin.0,
            (
              (length-begins (10 + 4 * s) groups, begin.1),
              (
                (length-map groups leader, up, (fits-parts (1 ∷ length leads ∷ []) leads b.0).1),
                record { sound = fine-sets; heads = refl; begins = offsets-begin (10 + 4 * s) (map (set_words n) groups) },
              ),
            ),
          ),
        ))

    pub ligature-on :
        (flags : ℕ) (components ligatures : List ℕ) → length components ≡ length ligatures * n → rising 0 (map first (rules n components ligatures)) ≡ true
        → fits (ligature flags n (rules n components ligatures)) ≡ true
        → ligature_scan n (ligature flags n (rules n components ligatures)) ≡ fine (lookup_of flags (Ligature n) components ligatures)
    unfolding ligature
    ligature-on flags components ligatures even up fit =
        let rs : List Rule = rules n components ligatures in
        groups_on flags (sets rs) (grouped n rs (wide-rules n components ligatures even)) (led_sets rs) (leaders_rise rs up) fit
        ∙ rw (flatten_sets rs, flat-rules n components ligatures even, ligatures-rules n components ligatures)

    -- ---- backward
    sound-parts : (groups : List (List Rule)) → Sound n groups → Grouped n groups × Led groups
    unfolding Sound Grouped Led
    sound-parts [] s = (tt, tt)
    sound-parts (g ∷ gs) s =
        let m = sound-parts gs s.4 in
        ((s.0, s.2, m.0), (s.0, s.3, m.1))

    read_groups :
        (flags : ℕ) (groups : List (List Rule)) (ws : List ℕ) → Sound n groups → rising 1 (map leader groups) ≡ true → ws ≡ ligature_of flags n groups
        → LigatureRead n ws (said_by flags groups)
    unfolding ligature
    read_groups flags groups ws s up e =
        let m = sound-parts groups s in
        let w = wide_flatten n groups m.0 in
        let same = rules-flat n (flatten groups) w in
        record {
          kind = refl;
          even = length-flat n (flatten groups) w ∙ ap (λ (k : ℕ). k * n) (sym (length-map (flatten groups) _));
          up = rw same (firsts-rise groups m.1 up);
          made = rw (same, sets_flatten groups m.1 up) e;
        }

    begin-there :
        (s : ℕ) (os : List ℕ) (groups : List (List Rule)) → length groups ≡ s → length os ≡ s → Spaced n s os → os ≡ offsets (get_or os 0 0) (map (set_words n) groups)
        → os ≡ offsets (10 + 4 * s) (map (set_words n) groups)
    unfolding Spaced offsets
    begin-there s [] [] z c h e = refl
    begin-there s [] (g ∷ gs) z c h e = absurd (omega arith)
    begin-there s (o ∷ os) groups z c h e = e ∙ ap (λ (x : ℕ). offsets x (map (set_words n) groups)) h.0

    words_are :
        (flags s : ℕ) (os leads : List ℕ) (groups : List (List Rule)) → length groups ≡ s → os ≡ offsets (10 + 4 * s) (map (set_words n) groups) → leads ≡ map leader groups
        → words_in (flags, (s, (os, (leads, groups)))) ≡ ligature_of flags n groups
    unfolding ligature_of
    words_are flags s os leads groups z p q = rw (length-map groups leader, z, p, q)

    pub ligature-back : (ws : List ℕ) (l : Lookup) → ligature_scan n ws ≡ fine l → LigatureRead n ws l
    unfolding ligature_of
    ligature-back ws l e =
        let m = ended ligature-takes (λ p. said_by p.0 p.1.1.1.1) ws l (ap (λ (r : Rest). r ws) (sym scan_groups) ∙ e) in
        rw m.says at (go m.value m.good m.made)
      where
        go : (p : Parts) → Good p → ws ≡ words_in p → LigatureRead n ws (said_by p.0 p.1.1.1.1)
        go p h e =
            let g = h.1.1 in
            let c = g.1.0 in
            let placed = g.1.1 in
            let groups = p.1.1.1.1 in
            let size : length groups ≡ p.1.0 = sym (length-map groups leader) ∙ ap length (sym placed.heads) ∙ c.0 in
            read_groups p.0 groups ws placed.sound (rw placed.heads at c.1)
            (e ∙ words_are p.0 p.1.0 p.1.1.0 p.1.1.1.0 groups size (begin-there p.1.0 p.1.1.0 groups size g.0.0 g.0.1 placed.begins) placed.heads)
