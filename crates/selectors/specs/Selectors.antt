-- Mongolian variation selectors (document 01, "Joining"): `selector` the four codes; `follow` the actions behind a record;
-- `settled` the actions of a line; `run` how many selectors a list begins with; `base` whose action a place has.
-- Assumes nothing.
use Rattle.std.specs.Prelude.{Bool, cond, ◌||◌, List, [], ◌∷◌, ℕ, zero, suc, eqb, get_or}

-- Mongolian free variation selectors one to three, and four; 180E between them is the vowel separator and is none
abbrev pub selector : ℕ → Bool
selector c = eqb c 0x180B || (eqb c 0x180C || (eqb c 0x180D || eqb c 0x180F))

-- the actions from a record on, behind one whose action is v: a selector "takes the action of the record before it, in order", so
-- a selector behind a selector takes what that one took. A record without a code keeps its action; a code without a record counts for nothing
abbrev pub follow : ℕ → List ℕ → List ℕ → List ℕ
follow v [] actions = actions
follow v (c ∷ codes) [] = []
follow v (c ∷ codes) (a ∷ actions) = cond (selector c) v a ∷ follow (cond (selector c) v a) codes actions

-- the actions of a line: "each record but the first", so the first keeps its action, whatever its code. Columns of unequal length as above
abbrev pub settled : List ℕ → List ℕ → List ℕ
settled [] actions = actions
settled (c ∷ codes) [] = []
settled (c ∷ codes) (a ∷ actions) = a ∷ follow a codes actions

-- how many selectors a list of codes begins with
abbrev pub run : List ℕ → ℕ
run [] = 0
run (c ∷ codes) = cond (selector c) (suc (run codes)) 0

-- where the record stands whose action place k has: the nearest at or before k that is no selector, else the first
abbrev pub base : List ℕ → ℕ → ℕ
base codes zero = zero
base codes (suc k) = cond (selector (get_or codes (suc k) 0)) (base codes k) (suc k)
