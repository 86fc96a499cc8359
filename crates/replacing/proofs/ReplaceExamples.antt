-- Replacements in small lines, computed.
-- Assumes nothing.
use mathlib.Core.Path.{◌≡◌, refl}
use mathlib.Core.Bool.{true, false}
use mathlib.Core.List.{List, [], ◌∷◌}
use Prim.Native.Nat.{ℕ}
use Rattle.letters.specs.Types.{U, D, T}
use Rattle.letters.specs.Categories.{Cf, Lo, Lu, Mn}
use Rattle.letters.specs.Actions.{isol, fina, medi, init, none}
use Rattle.shapes.specs.Joining.{form}
use Rattle.masks.specs.Masks.{mask}
use Rattle.refusals.specs.Left.{After}
use Rattle.lines.specs.Held.{setting_of, line_of}
use Rattle.replacing.specs.Replaced.{request_of, replace_refusal, replace_after}

-- a bit for each of the seven features
abbrev features : List ℕ
features = 0x1 ∷ 0x2 ∷ 0x4 ∷ 0x8 ∷ 0x10 ∷ 0x20 ∷ 0x40 ∷ []

-- document 01's: D D D, the middle replaced by U: isol none isol. The new masks are made of the base masks, not of the old ones
pub worked :
    replace_after (setting_of [] [] [] [] features false) (request_of 1 0x41 U Lu)
    (line_of (0x628 ∷ 0x62A ∷ 0x62B ∷ []) (D ∷ D ∷ D ∷ []) (Lo ∷ Lo ∷ Lo ∷ []) (0x100 ∷ 0x200 ∷ 0x400 ∷ []) (init ∷ medi ∷ fina ∷ []) (0x140 ∷ 0x210 ∷ 0x402 ∷ []))
    ≡ After 0
    (line_of (0x628 ∷ 0x41 ∷ 0x62B ∷ []) (D ∷ U ∷ D ∷ []) (Lo ∷ Lu ∷ Lo ∷ []) (0x100 ∷ 0x200 ∷ 0x400 ∷ []) (isol ∷ none ∷ isol ∷ []) (0x101 ∷ 0x200 ∷ 0x401 ∷ []))
unfolding form mask replace_refusal
worked = refl

-- a line that was not current: the stale action and mask of the record before the place stay, and are not copied
pub stale :
    replace_after (setting_of [] [] [] [] features true) (request_of 1 0x180C T Mn)
    (line_of (0x70F ∷ 0x180B ∷ []) (T ∷ T ∷ []) (Cf ∷ Mn ∷ []) (0 ∷ 0 ∷ []) (medi ∷ medi ∷ []) (0x10 ∷ 0x10 ∷ []))
    ≡ After 0 (line_of (0x70F ∷ 0x180C ∷ []) (T ∷ T ∷ []) (Cf ∷ Mn ∷ []) (0 ∷ 0 ∷ []) (medi ∷ none ∷ []) (0x10 ∷ 0 ∷ []))
unfolding form mask replace_refusal
stale = refl

-- Mongolian: the runs of selectors behind the nearest letter on each side and behind the place itself are joined afresh with them
runs :
    replace_after (setting_of [] [] [] [] features true) (request_of 2 0x1820 D Lo)
    (line_of (0x1820 ∷ 0x180B ∷ 0x41 ∷ 0x180C ∷ 0x180F ∷ 0x1820 ∷ 0x180D ∷ []) (D ∷ T ∷ U ∷ T ∷ T ∷ D ∷ T ∷ []) (Lo ∷ Mn ∷ Lu ∷ Mn ∷ Mn ∷ Lo ∷ Mn ∷ [])
    (0 ∷ 0 ∷ 0 ∷ 0 ∷ 0 ∷ 0 ∷ 0 ∷ []) (isol ∷ isol ∷ none ∷ none ∷ none ∷ isol ∷ isol ∷ []) (0x1 ∷ 0x1 ∷ 0 ∷ 0 ∷ 0 ∷ 0x1 ∷ 0x1 ∷ []))
    ≡ After 0
    (line_of (0x1820 ∷ 0x180B ∷ 0x1820 ∷ 0x180C ∷ 0x180F ∷ 0x1820 ∷ 0x180D ∷ []) (D ∷ T ∷ D ∷ T ∷ T ∷ D ∷ T ∷ []) (Lo ∷ Mn ∷ Lo ∷ Mn ∷ Mn ∷ Lo ∷ Mn ∷ [])
    (0 ∷ 0 ∷ 0 ∷ 0 ∷ 0 ∷ 0 ∷ 0 ∷ []) (init ∷ init ∷ medi ∷ medi ∷ medi ∷ fina ∷ fina ∷ []) (0x40 ∷ 0x40 ∷ 0x10 ∷ 0x10 ∷ 0x10 ∷ 0x2 ∷ 0x2 ∷ []))
unfolding form mask replace_refusal
runs = refl

-- a place at the length is refused with 4, and nothing changes
past_the_end :
    replace_after (setting_of [] [] [] [] features false) (request_of 1 0x41 U Lu) (line_of (0x628 ∷ []) (D ∷ []) (Lo ∷ []) (0 ∷ []) (medi ∷ []) (7 ∷ []))
    ≡ After 4 (line_of (0x628 ∷ []) (D ∷ []) (Lo ∷ []) (0 ∷ []) (medi ∷ []) (7 ∷ []))
unfolding replace_refusal
past_the_end = refl
