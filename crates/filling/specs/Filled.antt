-- Rules put into two columns: `all_rules` those of a lookup's bytes; `Filled` that their components were written over one from a place on, and their ligatures over the other.
-- Assumes nothing.
use Rattle.std.specs.Prelude.{◌≡◌, List, ℕ, ◌+◌, ◌*◌}
use Rattle.laws.specs.Lists.{pasted}
use Rattle.layouts.specs.Tables.{Rule}
use Rattle.layouts.specs.Lookups.{flat, ligatures as ligatures_of}
use Rattle.grouping.specs.Grouped.{sets_at, leads_at}

-- the rules of all s sets, the first of which begins behind the coverage
abbrev pub all_rules : ℕ → ℕ → List ℕ → List Rule
all_rules n s b = sets_at n (leads_at s b) b (18 + 4 * s)

pub record Filled (rules : List Rule) (components : List ℕ) (x : ℕ) (ligatures : List ℕ) (i : ℕ) (components' ligatures' : List ℕ) : Type 0 where
  pub parts : components' ≡ pasted (flat rules) x components
  pub wholes : ligatures' ≡ pasted (ligatures_of rules) i ligatures
