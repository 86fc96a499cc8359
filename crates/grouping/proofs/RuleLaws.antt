-- Rules, by the next of them: where they begin (`evenly-next`, `more`, `steps-fit`); one rule (`rule-stops`, `rule-number`, `rule_taken`); rules behind each other (`rules-stops`, `rules-more`, `rules-none`); a set (`set-stops`, `set_taken`).
-- Assumes nothing.
use mathlib.Core.Path.{◌≡◌, ap}
use mathlib.Core.List.{List, [], ◌∷◌}
use Prim.Native.Nat.{ℕ, zero, suc, ◌+◌, ◌-◌, ◌*◌, ◌≤◌, ◌<◌}
use native.Mathlib.Nat.{mul-le-mul_left}
use native.Mathlib.Omega.{arith}
use lib.ListN.{length, get_or}
use Rattle.words.specs.Words.{word_at, words_at}
use Rattle.words.proofs.WordLaws.{one_less}
use Rattle.layouts.specs.Tables.{Rule, evenly}
use Rattle.scanning.specs.Scans.{Rest, exactly, several}
use Rattle.scanning.specs.Grammar.{ruled, grouped}
use Rattle.std.specs.Prelude.{Ok, Err}
use Rattle.accepting.specs.declared.Fault.{Fault}
use Rattle.accepting.specs.Scanned.{Scanned, Took, these}
use Rattle.accepting.proofs.TookLaws.{took_else, took_then, took_end, took_none, took_map}
use Rattle.grouping.specs.Grouped.{rule_at, rules_at, one_rule}

pub evenly-next : (c o by : ℕ) → 0 < c → evenly c o by ≡ o ∷ evenly (c - 1) (o + by) by
evenly-next zero o by h = absurd (omega arith)
evenly-next (suc c) o by h = ap (λ (m : ℕ). o ∷ evenly m (o + by) by) (one_less c)

-- the steps to come, the next among them
pub more : (left by : ℕ) → 0 < left → left * by ≡ by + (left - 1) * by
more zero by h = absurd (omega arith)
more (suc left) by h = let less : suc left - 1 ≡ left = omega arith in rw less (omega arith)

-- the offsets of a set's rules are small
pub steps-fit : (n c : ℕ) → n ≤ 3 → c < 65536 → 2 + 2 * c + c * (2 + 2 * n) ≤ 655360
steps-fit n c h l = omega (arith, mul-le-mul_left c (eight n h))
  where
    eight : (n : ℕ) → n ≤ 3 → 2 + 2 * n ≤ 8
    eight n h = omega arith

-- ---- one rule
module _ (n : ℕ) (b : List ℕ) (at : ℕ) (lead : ℕ) where
  -- a rule of a ligature and other components
  abbrev made : ℕ → List ℕ → Rule
  made ligature others = record { components = lead ∷ others; ligature = ligature }

  abbrev behind_ligature : List ℕ → (Rule → Rest) → Rest
  behind_ligature ws k = exactly (n ∷ []) (several (n - 1) (λ others. k (made (get_or ws 0 0) others)))

  abbrev behind_number : ℕ → Unit {0} → (Rule → Rest) → Rest
  behind_number ligature u k = several (n - 1) (λ others. k (made ligature others))

  pub rule-stops : (f : Fault) → Took (several 1) (words_at b at 1) (at + 2 * 1) b at (Err f) → Took (one_rule n lead) (rule_at n lead b at) (at + (2 + 2 * n)) b at (Err f)
  unfolding several
  rule-stops f t = took_else (several 1) behind_ligature _ _ f t

  module _ (p : ℕ) (t : Took (several 1) (words_at b at 1) (at + 2 * 1) b at (Ok p)) where
    pub rule-number : (f : Fault) → Took (these (n ∷ [])) tt (p + 2 * 1) b p (Err f) → Took (one_rule n lead) (rule_at n lead b at) (at + (2 + 2 * n)) b at (Err f)
    unfolding several words_at
    rule-number f u = took_then (several 1) behind_ligature p t (Err f) (took_else (these (n ∷ [])) (behind_number (word_at b at)) _ _ f u)

    pub rule_taken :
        (q : ℕ) → Took (these (n ∷ [])) tt (p + 2 * 1) b p (Ok q) → 0 < n → (r : Scanned) → Took (several (n - 1)) (words_at b q (n - 1)) (q + 2 * (n - 1)) b q r
        → Took (one_rule n lead) (rule_at n lead b at) (at + (2 + 2 * n)) b at r
    unfolding several words_at rule_at
    rule_taken q u low r v =
        let four : q ≡ at + 4 = omega (arith, t.place.0, u.place.0) in
        let end : at + 4 + 2 * (n - 1) ≡ at + (2 + 2 * n) = omega (arith, low) in
        took_then (several 1) behind_ligature p t r
        (took_then (these (n ∷ [])) (behind_number (word_at b at)) q u r
        (rw (four, ← end) (took_map (several (n - 1)) (made (word_at b at)) (rw four at v))))

-- ---- rules behind each other
module _ (n : ℕ) (b : List ℕ) (p : ℕ) (lead : ℕ) where
  abbrev others : ℕ → Rule → (List Rule → Rest) → Rest
  others c r k = ruled n lead c (λ set. k (r ∷ set))

  pub rules-stops : (left : ℕ) {value : List Rule} {end : ℕ} → 0 < left → (f : Fault) → Took (one_rule n lead) (rule_at n lead b p) (p + (2 + 2 * n)) b p (Err f) → Took (ruled n lead left) value end b p (Err f)
  unfolding ruled
  rules-stops zero h f t = absurd (omega arith)
  rules-stops (suc c) h f t = took_else (one_rule n lead) (others c) _ _ f t

  pub rules-more :
      (left : ℕ) {end : ℕ} → 0 < left → (q : ℕ) → Took (one_rule n lead) (rule_at n lead b p) (p + (2 + 2 * n)) b p (Ok q)
      → (r : Scanned) → Took (ruled n lead (left - 1)) (rules_at n lead (left - 1) b q) end b q r → Took (ruled n lead left) (rules_at n lead left b p) end b p r
  unfolding ruled rules_at
  rules-more zero h q t r u = absurd (omega arith)
  rules-more (suc c) h q t r u =
      let step : q ≡ p + (2 + 2 * n) = t.place.0 in
      let less : suc c - 1 ≡ c = omega arith in
      took_then (one_rule n lead) (others c) q t r (rw (← step) (took_map (ruled n lead c) (λ set. rule_at n lead b p ∷ set) (rw less at u)))

  pub rules-none : {end : ℕ} → p ≡ end → p ≤ length b → Took (ruled n lead 0) (rules_at n lead 0 b p) end b p (Ok p)
  unfolding ruled rules_at
  rules-none e h = took_none b p e h

-- ---- a set
module _ (n c : ℕ) (b : List ℕ) (at : ℕ) (lead : ℕ) where
  abbrev behind_offsets : Unit {0} → (List Rule → Rest) → Rest
  behind_offsets u k = ruled n lead c k

  pub set-stops :
      (f : Fault) → Took (these (evenly c (2 + 2 * c) (2 + 2 * n))) tt (at + 2 * c) b at (Err f)
      → Took (grouped n lead c) (rules_at n lead c b (at + 2 * c)) (at + c * (4 + 2 * n)) b at (Err f)
  set-stops f t = took_else (these (evenly c (2 + 2 * c) (2 + 2 * n))) behind_offsets _ _ f t

  pub set_taken :
      (p : ℕ) → Took (these (evenly c (2 + 2 * c) (2 + 2 * n))) tt (at + 2 * c) b at (Ok p)
      → (r : Scanned) → Took (ruled n lead c) (rules_at n lead c b p) (p + c * (2 + 2 * n)) b p r → Took (grouped n lead c) (rules_at n lead c b (at + 2 * c)) (at + c * (4 + 2 * n)) b at r
  set_taken p t r u =
      let two : p ≡ at + 2 * c = t.place.0 in
      let end : p + c * (2 + 2 * n) ≡ at + c * (4 + 2 * n) = omega (arith, two) in
      took_then (these (evenly c (2 + 2 * c) (2 + 2 * n))) behind_offsets p t r (rw (← two) (took_end end u))
