-- Masks of a joined line (document 01, "Joining"): `mask` that of a record, `masks` those of a line.
-- Assumes nothing.
use Rattle.std.specs.Prelude.{List, [], ◌∷◌, ℕ, get_or}
use Rattle.std.specs.Int.Bits.{bit_or}

-- "its base mask OR the entry of its action". Past the entries there is mask 0: "action 7 gives mask 0", and so do all above it
unfoldable pub mask : List ℕ → ℕ → ℕ → ℕ
mask features base action = bit_or base (get_or features action 0)

-- record by record; of columns of unequal length, up to the shorter
abbrev pub masks : List ℕ → List ℕ → List ℕ → List ℕ
masks features [] actions = []
masks features (b ∷ base) [] = []
masks features (b ∷ base) (a ∷ actions) = mask features b a ∷ masks features base actions
