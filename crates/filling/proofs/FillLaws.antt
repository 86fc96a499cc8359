-- Rules put into two columns: the components of one rule (`lead-filled`, `word-filled`, `rule-filled`); the loop over the rules of a set (`Going`, `going_begins`, `going_fits`, `going_next`, `going_ends`).
-- Assumes nothing.
use mathlib.Core.Path.{◌≡◌, refl, sym, ap, ◌∙◌}
use mathlib.Core.List.{List, [], ◌∷◌, ◌++◌}
use Prim.Native.Nat.{ℕ, suc, ◌+◌, ◌-◌, ◌*◌, ◌≤◌, ◌<◌}
use native.Mathlib.Omega.{arith}
use lib.ListN.{length, set, length-set, length-map}
use Rattle.laws.specs.Lists.{pasted}
use Rattle.laws.proofs.PasteLaws.{length-pasted, paste_none, paste_one, paste_behind}
use Rattle.words.specs.Words.{word_at, words_at}
use Rattle.words.proofs.WordLaws.{length-words, words_append}
use Rattle.layouts.specs.Lookups.{flat, ligatures as ligatures_of}
use Rattle.layouts.specs.Tables.{Rule}
use Rattle.grouping.specs.Grouped.{rule_at, rules_at}
use Rattle.grouping.proofs.RuleLaws.{more}
use Rattle.filling.specs.Filled.{Filled}
use Rattle.filling.proofs.RuleLaws.{length-rule, length-rules, length-parts}

-- an element stored behind a part that was written over
store_behind : (P l : List ℕ) (x j v : ℕ) → j ≡ x + length P → j < length l → set (pasted P x l) j v ≡ pasted (P ++ (v ∷ [])) x l
store_behind P l x j v e h =
    paste_one v j (pasted P x l) (omega (arith, length-pasted P x l (omega arith))) ∙ paste_behind P (v ∷ []) l x j e (omega arith)

-- ---- the components of one rule: its first glyph, then the words behind it, one by one
module _ (lead : ℕ) (b : List ℕ) (at x : ℕ) (l : List ℕ) where
  -- the column with k of the words
  abbrev pub filled : ℕ → List ℕ
  filled k = pasted (lead ∷ words_at b (at + 4) k) x l

  pub lead-filled : x < length l → set l x lead ≡ filled 0
  unfolding words_at
  lead-filled h = paste_one lead x l h

  pub word-filled :
      (k : ℕ) (now : List ℕ) → now ≡ filled k → (i p v : ℕ) → i ≡ x + (k + 1) → p ≡ at + 4 + 2 * k → v ≡ word_at b p → i < length l → set now i v ≡ filled (k + 1)
  unfolding words_at
  word-filled k now f i p v e g w h =
      rw (f, w, g)
      (store_behind (lead ∷ words_at b (at + 4) k) l x i _ (omega (arith, length-words b (at + 4) k)) h
      ∙ ap (λ (ws : List ℕ). pasted (lead ∷ ws) x l) (sym (words_append b (at + 4) k 1)))

  -- n - 1 of them are all
  pub rule-filled : (n k : ℕ) → n ≡ k + 1 → filled k ≡ pasted (rule_at n lead b at).components x l
  unfolding rule_at
  rule-filled n k e = let less : k ≡ n - 1 = omega arith in ap filled less

-- ---- the loop over the rules of a set
-- before a rule at byte p, with it and others to come: these, written over what is there, make what all of them were to make
pub record Going (n lead c : ℕ) (b : List ℕ) (at : ℕ) (components : List ℕ) (x : ℕ) (ligatures : List ℕ) (i : ℕ) (left p y j : ℕ) (now here : List ℕ) : Type 0 where
  pub bytes-to : p + left * (2 + 2 * n) ≡ at + c * (2 + 2 * n)
  pub parts-to : y + left * n ≡ x + c * n
  pub wholes-to : j + left ≡ i + c
  pub long : length now ≡ length components
  pub wide : length here ≡ length ligatures
  pub parts : pasted (flat (rules_at n lead left b p)) y now ≡ pasted (flat (rules_at n lead c b at)) x components
  pub wholes : pasted (ligatures_of (rules_at n lead left b p)) j here ≡ pasted (ligatures_of (rules_at n lead c b at)) i ligatures

module _ (n lead c : ℕ) (b : List ℕ) (at : ℕ) (components : List ℕ) (x : ℕ) (ligatures : List ℕ) (i : ℕ) where
  pub going_begins : Going n lead c b at components x ligatures i c at x i components ligatures
  going_begins = record { bytes-to = refl; parts-to = refl; wholes-to = refl; long = refl; wide = refl; parts = refl; wholes = refl }

  module _ (left p y j : ℕ) (now here : List ℕ) (g : Going n lead c b at components x ligatures i left p y j now here) where
    pub going_ends : left ≡ 0 → Filled (rules_at n lead c b at) components x ligatures i now here
    unfolding rules_at flat
    going_ends z =
        record {
          parts = sym (paste_none y now) ∙ ap (λ (m : ℕ). pasted (flat (rules_at n lead m b p)) y now) (sym z) ∙ g.parts;
          wholes = sym (paste_none j here) ∙ ap (λ (m : ℕ). pasted (ligatures_of (rules_at n lead m b p)) j here) (sym z) ∙ g.wholes;
        }

    module _ (h : 0 < left) (low : 0 < n) (room : x + c * n ≤ length components) (space : i + c ≤ length ligatures) where
      -- there is room for the next rule
      pub going_fits : at + c * (2 + 2 * n) ≤ length b → (p + (2 + 2 * n) ≤ length b) × ((y + n ≤ length now) × (j < length here))
      going_fits bytes =
          let steps = more left n h in (
            omega (arith, g.bytes-to, bytes, more left (2 + 2 * n) h),
            (omega (arith, g.parts-to, g.long, room, steps), omega (arith, g.wholes-to, g.wide, space, h)),
          )

      -- one rule and the others
      split : rules_at n lead left b p ≡ rule_at n lead b p ∷ rules_at n lead (left - 1) b (p + (2 + 2 * n))
      unfolding rules_at
      split = let one : left ≡ suc (left - 1) = omega arith in ap (λ (m : ℕ). rules_at n lead m b p) one

      pub going_next :
          (d : List ℕ) → d ≡ pasted (rule_at n lead b p).components y now → (w : ℕ) → w ≡ word_at b p
          → Going n lead c b at components x ligatures i (left - 1) (p + (2 + 2 * n)) (y + n) (j + 1) d (set here j w)
      unfolding rule_at flat
      going_next d e w f =
          let others : List Rule = rules_at n lead (left - 1) b (p + (2 + 2 * n)) in
          let P : List ℕ = (rule_at n lead b p).components in
          let size : length P ≡ n = length-rule n lead b p low in
          let steps = more left n h in
          let rest : length (flat others) ≡ (left - 1) * n = length-parts n lead (left - 1) b (p + (2 + 2 * n)) low in
          let tail : length (ligatures_of others) ≡ left - 1 = length-map others _ ∙ length-rules n lead (left - 1) b (p + (2 + 2 * n)) in
          let fits : y + n + (left - 1) * n ≤ length now = omega (arith, g.parts-to, g.long, room, steps) in
          let free : j + 1 + (left - 1) ≤ length here = omega (arith, g.wholes-to, g.wide, space, h) in
          record {
            bytes-to = omega (arith, g.bytes-to, more left (2 + 2 * n) h);
            parts-to = omega (arith, g.parts-to, steps);
            wholes-to = omega (arith, g.wholes-to, h);
            long = ap length e ∙ length-pasted P y now (omega (arith, size, fits)) ∙ g.long;
            wide = length-set here j w ∙ g.wide;
            parts =
                ap (pasted (flat others) (y + n)) e
                ∙ paste_behind P (flat others) now y (y + n) (ap (λ (m : ℕ). y + m) (sym size)) (omega (arith, rest, fits))
                ∙ ap (λ (l : List Rule). pasted (flat l) y now) (sym split)
                ∙ g.parts;
            wholes =
                ap (pasted (ligatures_of others) (j + 1)) (paste_one w j here (omega (arith, free)) ∙ ap (λ (v : ℕ). pasted (v ∷ []) j here) f)
                ∙ paste_behind (word_at b p ∷ []) (ligatures_of others) here j (j + 1) refl (omega (arith, tail, free))
                ∙ ap (λ (l : List Rule). pasted (ligatures_of l) j here) (sym split)
                ∙ g.wholes;
          }
