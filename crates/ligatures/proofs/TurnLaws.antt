-- The turns of the loops that write a set and all sets, with what is to come at each place. A set: how long it is (`set_long`) and that its count fits (`count_fits`); its count is written (`set-begins`), a rule is next (`RulesToCome`, `RuleNext`, `rule-next`, `rule_turn`), none is left (`set-ends`).
-- All sets: they begin (`sets-begin`), a set is next (`SetsToCome`, `SetNext`, `set_next`, `set_turn`), none is left (`sets_end`); the area keeps its length (`sets_same`).
-- Assumes nothing.
use mathlib.Core.Path.{◌≡◌, sym, ap, ◌∙◌}
use mathlib.Core.Bool.{true}
use mathlib.Core.List.{List, [], ◌∷◌, ◌++◌, map}
use Prim.Native.Nat.{ℕ, ◌+◌, ◌-◌, ◌*◌, ◌<◌, ◌≤◌}
use native.Mathlib.Nat.{add-zero}
use native.Mathlib.Omega.{arith}
use lib.ListN.{length, get_or, length-append, length-map}
use Rattle.laws.specs.Lists.{pasted}
use Rattle.laws.proofs.PasteLaws.{length-pasted, paste_none}
use Rattle.words.specs.Words.{bytes, Wrote}
use Rattle.words.proofs.WordLaws.{length-bytes}
use Rattle.words.proofs.WroteLaws.{frame, paste_words}
use Rattle.layouts.specs.Tables.{offsets, joined, rule_words, set_words}
use Rattle.layouts.specs.Lookups.{fits}
use Rattle.layouts.proofs.FitLaws.{fits_head, fits-parts}
use Rattle.layouts.proofs.SizeLaws.{length-offsets}
use Rattle.ligatures.specs.Places.{Shape, rule_at, part, sets_from, SetAt}
use Rattle.ligatures.specs.Sets.{placed, set_offsets, set_leaders, set_blocks, SetsRoom}
use Rattle.ligatures.proofs.PlaceLaws.{length_part, part-next, part_none, leader-at, sets-none}
use Rattle.ligatures.proofs.ApartLaws.{ToCome, to_come_lem, first_next, second-next, third_next, all_there}

-- ---- a set
-- the words of the rules from rule k up to rule e
abbrev pub rule_blocks : ℕ → List ℕ → List ℕ → ℕ → ℕ → List (List ℕ)
rule_blocks n cs ls k e = map (rule_words n) (part n cs ls k e)

-- of the set of the rules from i up to e, at byte `at`, those from k on are to come, their offsets and they; at first all were, in the area lent
pub record RulesToCome (n : ℕ) (cs ls : List ℕ) (i e at : ℕ) (lent : List ℕ) (offsets-at rules-at : ℕ) (area : List ℕ) (offset rule k : ℕ) : Type 0 where
  pub upto : k ≤ e
  pub begins : at ≤ rule
  pub small : fits (offsets (rule - at) (rule_blocks n cs ls k e)) ≡ true
  pub coming :
      ToCome (placed lent offsets-at (offsets (rules-at - at) (rule_blocks n cs ls i e)) rules-at [] rules-at (joined (rule_blocks n cs ls i e))) (rules-at + 2 * length (joined (rule_blocks n cs ls i e))) area
      offset (offsets (rule - at) (rule_blocks n cs ls k e)) rules-at [] rule (joined (rule_blocks n cs ls k e))

-- rule k is next: its offset, and its words
pub record RuleNext (n : ℕ) (cs ls : List ℕ) (i e at : ℕ) (lent : List ℕ) (offsets-at rules-at : ℕ) (area : List ℕ) (offset rule k : ℕ) : Type 0 where
  pub small : rule - at < 65536
  pub others : fits (offsets (rule - at + 2 * length (rule_words n (rule_at n cs ls k))) (rule_blocks n cs ls (k + 1) e)) ≡ true
  pub coming :
      ToCome (placed lent offsets-at (offsets (rules-at - at) (rule_blocks n cs ls i e)) rules-at [] rules-at (joined (rule_blocks n cs ls i e))) (rules-at + 2 * length (joined (rule_blocks n cs ls i e))) area
      offset (((rule - at) ∷ []) ++ offsets (rule - at + 2 * length (rule_words n (rule_at n cs ls k))) (rule_blocks n cs ls (k + 1) e))
      rules-at [] rule (rule_words n (rule_at n cs ls k) ++ joined (rule_blocks n cs ls (k + 1) e))

module _ {n : ℕ} {cs ls : List ℕ} {i e at : ℕ} {lent : List ℕ} {offsets-at rules-at : ℕ} {area : List ℕ} {offset rule k : ℕ} (t : RulesToCome n cs ls i e at lent offsets-at rules-at area offset rule k) where
  pub rule-next : k < e → e ≤ length ls → RuleNext n cs ls i e at lent offsets-at rules-at area offset rule k
  unfolding offsets joined
  rule-next h w =
      let next : rule_blocks n cs ls k e ≡ rule_words n (rule_at n cs ls k) ∷ rule_blocks n cs ls (k + 1) e = ap (map (rule_words n)) (part-next n cs ls k e h w) in
      let f = fits_head (rule - at) (offsets (rule - at + 2 * length (rule_words n (rule_at n cs ls k))) (rule_blocks n cs ls (k + 1) e)) (rw next at t.small) in
      record { small = f.0; others = f.1; coming = rw next at t.coming }

  pub rule_turn :
      k < e → e ≤ length ls → {put : List ℕ} {offset' : ℕ} {area' : List ℕ} {rule' : ℕ} → Wrote area offset ((rule - at) ∷ []) put offset' []
      → Wrote put rule (rule_words n (rule_at n cs ls k)) area' rule' [] → (k' : ℕ) → k' ≡ k + 1 → RulesToCome n cs ls i e at lent offsets-at rules-at area' offset' rule' k'
  rule_turn h w {rule' = rule'} p q k' up =
      let r = rule-next h w in
      let b = t.begins in
      let on : rule - at + 2 * length (rule_words n (rule_at n cs ls k)) ≡ rule' - at = omega (arith, q.place) in
      record {
        upto = omega arith;
        begins = omega (arith, q.place);
        small = rw up (rw on at r.others);
        coming = rw up (rw on at (third_next (first_next r.coming p) q));
      }

  rules-end : e ≤ k → (rule ≡ rules-at + 2 * length (joined (rule_blocks n cs ls i e))) × (area ≡ placed lent offsets-at (offsets (rules-at - at) (rule_blocks n cs ls i e)) rules-at [] rules-at (joined (rule_blocks n cs ls i e)))
  unfolding offsets joined
  rules-end h =
      let none : rule_blocks n cs ls k e ≡ [] = ap (map (rule_words n)) (part_none n cs ls k e h) in
      let z = rw none at t.coming in
      (sym (add-zero rule) ∙ z.place, all_there z)

-- the set, of which the count is written, and the place of the rules is known
module _ (n : ℕ) (cs ls : List ℕ) (i e : ℕ) (w : e ≤ length ls) where
  set_words_lem : set_words n (part n cs ls i e) ≡ (e - i) ∷ (offsets (2 + 2 * (e - i)) (rule_blocks n cs ls i e) ++ joined (rule_blocks n cs ls i e))
  unfolding set_words
  set_words_lem = rw (length_part n cs ls i e w)

  many : length (offsets (2 + 2 * (e - i)) (rule_blocks n cs ls i e)) ≡ e - i
  many = length-offsets (2 + 2 * (e - i)) (rule_blocks n cs ls i e) ∙ length-map (part n cs ls i e) (rule_words n) ∙ length_part n cs ls i e w

  long : length (set_words n (part n cs ls i e)) ≡ 1 + (e - i + length (joined (rule_blocks n cs ls i e)))
  long = omega (arith, ap length set_words_lem, length-append (offsets (2 + 2 * (e - i)) (rule_blocks n cs ls i e)) (joined (rule_blocks n cs ls i e)), many)

  -- it has a count, and an offset for each rule
  pub set_long : 1 + (e - i) ≤ length (set_words n (part n cs ls i e))
  set_long = omega (arith, long)

  module _ (f : fits (set_words n (part n cs ls i e)) ≡ true) where
    pub count_fits : e - i < 65536
    count_fits = (fits_head (e - i) _ (rw set_words_lem at f)).0

    module _ {lent : List ℕ} {at : ℕ} {area : List ℕ} {offset : ℕ} (room : at + 2 * length (set_words n (part n cs ls i e)) ≤ length lent) (p : Wrote lent at ((e - i) ∷ []) area offset []) where
      on : offset ≡ at + 2
      on = sym (add-zero offset) ∙ p.place

      from : offset + 2 * (e - i) - at ≡ 2 + 2 * (e - i)
      from = omega (arith, on)

      pub set-begins : i ≤ e → RulesToCome n cs ls i e at area offset (offset + 2 * (e - i)) area offset (offset + 2 * (e - i)) i
      unfolding bytes
      set-begins up =
          let firsts : List ℕ = offsets (2 + 2 * (e - i)) (rule_blocks n cs ls i e) in
          record {
            upto = up;
            begins = omega (arith, on);
            small = rw from (fits-parts firsts (joined (rule_blocks n cs ls i e)) (fits_head (e - i) _ (rw set_words_lem at f)).1).0;
            coming = to_come_lem (rw from (record { first_ends = omega (arith, many); second-ends = omega arith; third_ends = omega (arith, on, long, p.same) }));
          }

      pub set-ends : {area' : List ℕ} {offset' rule k : ℕ} → e ≤ k → RulesToCome n cs ls i e at area offset (offset + 2 * (e - i)) area' offset' rule k → Wrote lent at (set_words n (part n cs ls i e)) area' rule []
      unfolding bytes
      set-ends {area'} {rule = rule} h t =
          let z = rules-end t h in
          let firsts : List ℕ = offsets (2 + 2 * (e - i)) (rule_blocks n cs ls i e) in
          let bodies : List ℕ = joined (rule_blocks n cs ls i e) in
          let whole : Wrote lent at ((e - i) ∷ (firsts ++ bodies)) area offset (firsts ++ bodies) = frame (firsts ++ bodies) (rw set_words_lem at room) p in
          let there : area' ≡ pasted (bytes (set_words n (part n cs ls i e))) at lent =
          rw from at z.1
          ∙ ap (pasted (bytes bodies) (offset + 2 * (e - i))) (paste_none (offset + 2 * (e - i)) (pasted (bytes firsts) offset area))
          ∙ paste_words area offset firsts bodies (offset + 2 * (e - i)) (omega (arith, many)) (omega (arith, on, long, p.same))
          ∙ whole.made
          ∙ ap (λ (ws : List ℕ). pasted (bytes ws) at lent) (sym set_words_lem)
          in
          record {
            room = room;
            place = omega (arith, z.0, on, long);
            same = ap length there ∙ length-pasted (bytes (set_words n (part n cs ls i e))) at lent (omega (arith, length-bytes (set_words n (part n cs ls i e))));
            made = paste_none rule area' ∙ there;
          }

-- ---- all sets
-- those from rule i on are to come: their offsets, their leaders, and they
pub record SetsToCome (n : ℕ) (cs ls lent : List ℕ) (offsets-at leaders-at at : ℕ) (area : List ℕ) (i offset leader set : ℕ) : Type 0 where
  pub upto : i ≤ length ls
  pub begins : 8 ≤ set
  pub offsets-fit : fits (set_offsets n cs ls i set) ≡ true
  pub sets-fit : fits (set_blocks n cs ls i) ≡ true
  pub coming :
      ToCome (placed lent offsets-at (set_offsets n cs ls 0 at) leaders-at (set_leaders n cs ls 0) at (set_blocks n cs ls 0)) (at + 2 * length (set_blocks n cs ls 0)) area
      offset (set_offsets n cs ls i set) leader (set_leaders n cs ls i) set (set_blocks n cs ls i)

pub sets-begin : {n : ℕ} {cs ls lent : List ℕ} {offset leader set : ℕ} → SetsRoom n cs ls lent 0 offset leader set → SetsToCome n cs ls lent offset leader set lent 0 offset leader set
sets-begin r = record { upto = omega arith; begins = r.begins; offsets-fit = r.offsets-fit; sets-fit = r.sets-fit; coming = to_come_lem r.apart }

-- the set of the rules from i up to e is next: its offset, its leader, and it
pub record SetNext (n : ℕ) (cs ls lent : List ℕ) (offsets-at leaders-at at : ℕ) (area : List ℕ) (i offset leader set e : ℕ) : Type 0 where
  pub small : set - 8 < 65536
  pub fine : fits (set_words n (part n cs ls i e)) ≡ true
  pub others : fits (offsets (set - 8 + 2 * length (set_words n (part n cs ls i e))) (map (set_words n) (sets_from n cs ls e))) ≡ true
  pub rest : fits (set_blocks n cs ls e) ≡ true
  pub coming :
      ToCome (placed lent offsets-at (set_offsets n cs ls 0 at) leaders-at (set_leaders n cs ls 0) at (set_blocks n cs ls 0)) (at + 2 * length (set_blocks n cs ls 0)) area
      offset (((set - 8) ∷ []) ++ offsets (set - 8 + 2 * length (set_words n (part n cs ls i e))) (map (set_words n) (sets_from n cs ls e)))
      leader ((get_or cs (i * n) 0 ∷ []) ++ set_leaders n cs ls e)
      set (set_words n (part n cs ls i e) ++ set_blocks n cs ls e)

module _ {n : ℕ} {cs ls lent : List ℕ} {offsets-at leaders-at at : ℕ} {area : List ℕ} {i offset leader set : ℕ} (t : SetsToCome n cs ls lent offsets-at leaders-at at area i offset leader set) where
  pub set_next : {e : ℕ} → Shape n cs ls → SetAt n cs ls i e → SetNext n cs ls lent offsets-at leaders-at at area i offset leader set e
  unfolding offsets joined
  set_next {e} s a =
      let f = fits_head (set - 8) (offsets (set - 8 + 2 * length (set_words n (part n cs ls i e))) (map (set_words n) (sets_from n cs ls e))) (rw a.split at t.offsets-fit) in
      let g = fits-parts (set_words n (part n cs ls i e)) (set_blocks n cs ls e) (rw a.split at t.sets-fit) in
      record { small = f.0; fine = g.0; others = f.1; rest = g.1; coming = rw (a.split, leader-at i e s a.after a.within) at t.coming }

  pub set_turn :
      {e : ℕ} → Shape n cs ls → SetAt n cs ls i e → {put : List ℕ} {offset' : ℕ} {led : List ℕ} {leader' : ℕ} {area' : List ℕ} {set' : ℕ}
      → Wrote area offset ((set - 8) ∷ []) put offset' []
      → Wrote put leader (get_or cs (i * n) 0 ∷ []) led leader' []
      → Wrote led set (set_words n (part n cs ls i e)) area' set' []
      → SetsToCome n cs ls lent offsets-at leaders-at at area' e offset' leader' set'
  set_turn {e} s a {set' = set'} p q r =
      let x = set_next s a in
      let b = t.begins in
      let on : set - 8 + 2 * length (set_words n (part n cs ls i e)) ≡ set' - 8 = omega (arith, r.place) in
      record {
        upto = a.within;
        begins = omega (arith, r.place);
        offsets-fit = rw on at x.others;
        sets-fit = x.rest;
        coming = rw on at (third_next (second-next (first_next x.coming p) q) r);
      }

  pub sets_end :
      length ls ≤ i → (set ≡ at + 2 * length (set_blocks n cs ls 0)) × (area ≡ placed lent offsets-at (set_offsets n cs ls 0 at) leaders-at (set_leaders n cs ls 0) at (set_blocks n cs ls 0))
  unfolding offsets joined
  sets_end h =
      let z = rw (sets-none n cs ls i h) at t.coming in
      (sym (add-zero set) ∙ z.place, all_there z)

  pub sets_same : SetsRoom n cs ls lent 0 offsets-at leaders-at at → length area ≡ length lent
  sets_same r = t.coming.same ∙ sym (to_come_lem r.apart).same
