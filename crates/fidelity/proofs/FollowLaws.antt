-- Following offsets finds what was laid out: the pairs of a single lookup (`pairs_followed`), a rule, a set and all sets of a ligature lookup (`rule-followed`, `rules-followed`, `sets-followed`); and so all rules of a lookup (`single-followed`, `ligature-followed`).
-- Assumes nothing.
use mathlib.Core.Path.{◌≡◌, refl, sym, ap, ap₂, ◌∙◌}
use mathlib.Core.List.{List, [], ◌∷◌, ◌++◌, map, flatten, append-nil}
use Prim.Native.Nat.{ℕ, ◌+◌, ◌-◌, ◌*◌, ◌<◌}
use native.Mathlib.Omega.{arith}
use lib.ListN.{length, get_or, drop, length-map}
use Rattle.words.specs.Words.{word_at, words_at}
use Rattle.layouts.specs.Tables.{Rule, first, leader, sets, offsets, joined, single, rule_words, set_words, ligature_of, ligature}
use Rattle.layouts.specs.Lookups.{rules}
use Rattle.layouts.proofs.SetLaws.{Wide, Grouped, grouped}
use Rattle.layouts.proofs.SizeLaws.{length-offsets}
use Rattle.scanning.proofs.GroupLaws.{Alike, Led, led_sets, flatten_sets}
use Rattle.fidelity.specs.Followed.{pairs_from, rule_at, rules_from, set_at, sets_from, followed}
use Rattle.fidelity.proofs.StandLaws.{Stands, stands-head, stands-append, Laid, laid, coverage-at}

-- words stand at a byte, however it is reckoned
moved : (b ws : List ℕ) (p q : ℕ) → p ≡ q → Stands b p ws → Stands b q ws
moved b ws p q e s = rw (← e) s

place : (q f s : ℕ) → q + f + s ≡ q + (f + s)
place q f s = omega arith

-- ---- a single lookup
pub pairs_followed : (b gs ss : List ℕ) (g s : ℕ) → length gs ≡ length ss → Stands b g gs → Stands b s ss → pairs_from b g s (length ss) ≡ rules 1 gs ss
unfolding pairs_from rules
pairs_followed b [] [] g s e x y = refl
pairs_followed b [] (v ∷ ss) g s e x y = absurd (omega arith)
pairs_followed b (u ∷ gs) [] g s e x y = absurd (omega arith)
pairs_followed b (u ∷ gs) (v ∷ ss) g s e x y =
    let h = stands-head b g u gs x in
    let k = stands-head b s v ss y in
    rw (h.0, k.0) (ap (λ (l : List Rule). record { components = u ∷ []; ligature = v } ∷ l) (pairs_followed b gs ss (g + 2) (s + 2) (omega arith) h.1 k.1))

-- ---- a ligature lookup, whose rules have n components
module _ (b : List ℕ) (n : ℕ) (low : 0 < n) where
  pub rule-followed : (r : Rule) (p : ℕ) → length r.components ≡ n → Stands b p (rule_words n r) → rule_at b (first r) p ≡ r
  unfolding rule_words
  rule-followed r p e s =
      let h = stands-head b p r.ligature (n ∷ drop 1 r.components) s in
      let k = stands-head b (p + 2) n (drop 1 r.components) h.1 in
      ap₂ made (rw k.0 (whole r.components e k.1)) h.0
    where
      made : List ℕ → ℕ → Rule
      made c l = record { components = c; ligature = l }

      four : (p : ℕ) → p + 2 + 2 ≡ p + 4
      four p = omega arith

      whole : (c : List ℕ) → length c ≡ n → words_at b (p + 2 + 2) (length (drop 1 c)) ≡ drop 1 c → get_or c 0 0 ∷ words_at b (p + 4) (n - 1) ≡ c
      whole [] e k = absurd (omega arith)
      whole (x ∷ c) e k =
          let less : length c ≡ n - 1 = omega arith in
          ap (λ (l : List ℕ). x ∷ l) (ap₂ (words_at b) (sym (four p)) (sym less) ∙ k)

  -- a set that begins at byte q
  pub rules-followed :
      (lead q : ℕ) (set : List Rule) (o f : ℕ) → Wide n set → Alike lead set → Stands b o (offsets f (map (rule_words n) set)) → Stands b (q + f) (joined (map (rule_words n) set))
      → rules_from b lead q o (length set) ≡ set
  unfolding Wide Alike offsets joined rules_from
  rules-followed lead q [] o f w a x y = refl
  rules-followed lead q (r ∷ set) o f w a x y =
      let size : ℕ = 2 * length (rule_words n r) in
      let h = stands-head b o f (offsets (f + size) (map (rule_words n) set)) x in
      let k = stands-append b (q + f) (rule_words n r) (joined (map (rule_words n) set)) y in
      let found : rule_at b lead (q + word_at b o) ≡ r = rw (h.0, ← a.0) (rule-followed r (q + f) w.0 k.0) in
      ap₂ (λ (here : Rule) (others : List Rule). here ∷ others) found
      (rules-followed lead q set (o + 2) (f + size) w.1 a.1 h.1 (moved b _ _ _ (place q f size) k.1))

  set-followed : (q : ℕ) (set : List Rule) → Wide n set → Alike (leader set) set → Stands b q (set_words n set) → set_at b (leader set) q ≡ set
  unfolding set_words
  set-followed q set w a s =
      let starts : List ℕ = offsets (2 + 2 * length set) (map (rule_words n) set) in
      let bodies : List ℕ = joined (map (rule_words n) set) in
      let h = stands-head b q (length set) (starts ++ bodies) s in
      let k = stands-append b (q + 2) starts bodies h.1 in
      let many : length starts ≡ length set = length-offsets (2 + 2 * length set) (map (rule_words n) set) ∙ length-map set (rule_words n) in
      rw h.0 (rules-followed (leader set) q set (q + 2) (2 + 2 * length set) w a k.0 (moved b _ _ _ (place q (length starts) (length set) many) k.1))
    where
      place : (q m c : ℕ) → m ≡ c → q + 2 + 2 * m ≡ q + (2 + 2 * c)
      place q m c e = omega arith

  -- sets of a subtable that begins at byte t
  pub sets-followed :
      (t : ℕ) (gs : List (List Rule)) (g o f : ℕ) → Grouped n gs → Led gs → Stands b g (map leader gs) → Stands b o (offsets f (map (set_words n) gs)) → Stands b (t + f) (joined (map (set_words n) gs))
      → sets_from b t g o (length gs) ≡ flatten gs
  unfolding Grouped Led offsets joined sets_from flatten
  sets-followed t [] g o f w a x y z = refl
  sets-followed t (set ∷ gs) g o f w a x y z =
      let size : ℕ = 2 * length (set_words n set) in
      let h = stands-head b g (leader set) (map leader gs) x in
      let i = stands-head b o f (offsets (f + size) (map (set_words n) gs)) y in
      let k = stands-append b (t + f) (set_words n set) (joined (map (set_words n) gs)) z in
      let found : set_at b (word_at b g) (t + word_at b o) ≡ set = rw (h.0, i.0) (set-followed (t + f) set w.1 a.1 k.0) in
      ap₂ (λ (here others : List Rule). here ++ others) found
      (sets-followed t gs (g + 2) (o + 2) (f + size) w.2 a.2 h.1 i.1 (moved b _ _ _ (place t f size) k.1))

-- ---- a lookup
module _ (b : List ℕ) (flags : ℕ) where
  pub single-laid : (gs ss : List ℕ) → Stands b 0 (single flags gs ss) → Laid b 1 flags 2 ss gs []
  unfolding single
  single-laid gs ss s = laid b 1 flags 2 ss gs [] (rw (append-nil gs) s)

  pub single-followed : (gs ss : List ℕ) → length gs ≡ length ss → Laid b 1 flags 2 ss gs [] → followed b ≡ rules 1 gs ss
  single-followed gs ss e x =
      let c = coverage-at b 1 flags 2 ss gs [] x in
      let h = stands-append b (14 + 2 * length ss) (1 ∷ length gs ∷ []) gs x.covered in
      rw (x.typed, c, x.begins, x.counts) (pairs_followed b gs ss (14 + 2 * length ss + 4) 14 e h.1 x.numbered)

  module _ (n : ℕ) (rs : List Rule) where
    abbrev pub starts : List ℕ
    starts = offsets (10 + 4 * length (sets rs)) (map (set_words n) (sets rs))

    abbrev pub blocks : List ℕ
    blocks = joined (map (set_words n) (sets rs))

    many : length starts ≡ length (sets rs)
    many = length-offsets (10 + 4 * length (sets rs)) (map (set_words n) (sets rs)) ∙ length-map (sets rs) (set_words n)

    pub ligature-laid : Stands b 0 (ligature flags n rs) → Laid b 4 flags 1 starts (map leader (sets rs)) blocks
    unfolding ligature ligature_of
    ligature-laid s = laid b 4 flags 1 starts (map leader (sets rs)) blocks (rw many s)

    pub ligature-followed : 0 < n → Wide n rs → Laid b 4 flags 1 starts (map leader (sets rs)) blocks → followed b ≡ rs
    ligature-followed low w x =
        let leads : List ℕ = map leader (sets rs) in
        let c = coverage-at b 4 flags 1 starts leads blocks x in
        let h = stands-append b (14 + 2 * length starts) (1 ∷ length leads ∷ []) leads x.covered in
        rw (x.typed, c, x.begins, x.counts ∙ many)
        (sets-followed b n low 8 (sets rs) (14 + 2 * length starts + 4) 14 (10 + 4 * length (sets rs)) (grouped n rs w) (led_sets rs) h.1 x.numbered
        (moved b _ _ _ (place (length starts) (length leads) (length (sets rs)) many (length-map (sets rs) leader)) x.behind)
        ∙ flatten_sets rs)
      where
        place : (m c s : ℕ) → m ≡ s → c ≡ s → 18 + 2 * m + 2 * c ≡ 8 + (10 + 4 * s)
        place m c s e f = omega arith
