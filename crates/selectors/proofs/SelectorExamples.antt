-- Settled actions of small lines, computed.
-- Assumes nothing.
use mathlib.Core.Path.{◌≡◌, refl}
use mathlib.Core.List.{[], ◌∷◌}
use Rattle.selectors.specs.Selectors.{settled}

-- document 01's: isol, a selector, the vowel separator
worked : settled (0x1820 ∷ 0x180B ∷ 0x180E ∷ []) (0 ∷ 7 ∷ 7 ∷ []) ≡ 0 ∷ 0 ∷ 7 ∷ []
worked = refl

-- a selector behind a selector; the next letter keeps its action
in_order : settled (0x1820 ∷ 0x180C ∷ 0x180F ∷ 0x1820 ∷ []) (6 ∷ 7 ∷ 7 ∷ 1 ∷ []) ≡ 6 ∷ 6 ∷ 6 ∷ 1 ∷ []
in_order = refl

-- a selector at the first place keeps its action, and the next takes it
leading : settled (0x180D ∷ 0x180D ∷ []) (1 ∷ 7 ∷ []) ≡ 1 ∷ 1 ∷ []
leading = refl
