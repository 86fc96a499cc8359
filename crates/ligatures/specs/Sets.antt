-- Words to come at three places: `Apart` that they lie apart, `placed` the area with all of them. And those of the sets of a lookup, from a rule on: `set_offsets`, `set_leaders`, `set_blocks`, that they fit there (`SetsRoom`), and the area with them (`sets_placed`).
-- Assumes nothing.
use Rattle.std.specs.Prelude.{◌≡◌, true, List, map, ℕ, ◌+◌, ◌-◌, ◌*◌, ◌≤◌, length}
use Rattle.laws.specs.Lists.{pasted}
use Rattle.words.specs.Words.{bytes}
use Rattle.layouts.specs.Tables.{leader, offsets, joined, set_words}
use Rattle.layouts.specs.Lookups.{fits}
use Rattle.ligatures.specs.Places.{sets_from}

-- ---- words at three places
-- us from byte i, vs from byte j, ws from byte k, each before the next, all in the area
pub record Apart (area : List ℕ) (i : ℕ) (us : List ℕ) (j : ℕ) (vs : List ℕ) (k : ℕ) (ws : List ℕ) : Type 0 where
  pub first_ends : i + 2 * length us ≤ j
  pub second-ends : j + 2 * length vs ≤ k
  pub third_ends : k + 2 * length ws ≤ length area

abbrev pub placed : List ℕ → ℕ → List ℕ → ℕ → List ℕ → ℕ → List ℕ → List ℕ
placed area i us j vs k ws = pasted (bytes ws) k (pasted (bytes vs) j (pasted (bytes us) i area))

-- ---- the sets from rule i on
-- where they begin, the first at byte `set` of the lookup: "Set offsets count from byte 8"
abbrev pub set_offsets : ℕ → List ℕ → List ℕ → ℕ → ℕ → List ℕ
set_offsets n components ligatures i set = offsets (set - 8) (map (set_words n) (sets_from n components ligatures i))

-- their first components
abbrev pub set_leaders : ℕ → List ℕ → List ℕ → ℕ → List ℕ
set_leaders n components ligatures i = map leader (sets_from n components ligatures i)

-- the sets
abbrev pub set_blocks : ℕ → List ℕ → List ℕ → ℕ → List ℕ
set_blocks n components ligatures i = joined (map (set_words n) (sets_from n components ligatures i))

-- all numbers are of 16 bits, and there is room for offsets, leaders and sets at three places
pub record SetsRoom (n : ℕ) (components ligatures area : List ℕ) (i offset leader set : ℕ) : Type 0 where
  pub begins : 8 ≤ set
  pub offsets-fit : fits (set_offsets n components ligatures i set) ≡ true
  pub sets-fit : fits (set_blocks n components ligatures i) ≡ true
  pub apart : Apart area offset (set_offsets n components ligatures i set) leader (set_leaders n components ligatures i) set (set_blocks n components ligatures i)

-- the area with offsets, leaders and sets at these places
abbrev pub sets_placed : ℕ → List ℕ → List ℕ → List ℕ → ℕ → ℕ → ℕ → ℕ → List ℕ
sets_placed n components ligatures area i offset leader set =
    placed area offset (set_offsets n components ligatures i set) leader (set_leaders n components ligatures i) set (set_blocks n components ligatures i)
