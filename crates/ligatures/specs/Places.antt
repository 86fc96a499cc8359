-- The rules that two lent columns hold, by their places: `Shape` how many of what there are; `rule_at` one rule; `part` the rules from one place up to another; `sets_from`, `SetAt` sets that begin at a place.
-- Assumes nothing.
use Rattle.std.specs.Prelude.{◌≡◌, List, ◌∷◌, ℕ, ◌-◌, ◌*◌, ◌≤◌, ◌<◌, length, get_or, take, drop}
use Rattle.layouts.specs.Tables.{Rule, sets}
use Rattle.layouts.specs.Lookups.{rules}

-- n is 2 or 3, and there are n components for each ligature
pub record Shape (n : ℕ) (components ligatures : List ℕ) : Type 0 where
  pub low : 2 ≤ n
  pub high : n ≤ 3
  pub flat : length components ≡ length ligatures * n

-- rule k
abbrev pub rule_at : ℕ → List ℕ → List ℕ → ℕ → Rule
rule_at n components ligatures k = record { components = take n (drop (k * n) components); ligature = get_or ligatures k 0 }

-- the rules from rule i up to rule e
abbrev pub part : ℕ → List ℕ → List ℕ → ℕ → ℕ → List Rule
part n components ligatures i e = take (e - i) (drop i (rules n components ligatures))

-- the rules from rule i on, in sets
abbrev pub sets_from : ℕ → List ℕ → List ℕ → ℕ → List (List Rule)
sets_from n components ligatures i = sets (drop i (rules n components ligatures))

-- a set begins with rule i and ends before rule e
pub record SetAt (n : ℕ) (components ligatures : List ℕ) (i e : ℕ) : Type 0 where
  pub after : i < e
  pub within : e ≤ length ligatures
  pub split : sets_from n components ligatures i ≡ part n components ligatures i e ∷ sets_from n components ligatures e
