-- Fits of document 01's worked examples, and of the ends of the ranges, computed from the definition. A room of 10 and one tile, where nothing else is said.
-- Assumes nothing.
use mathlib.Core.Path.{◌≡◌, refl}
use Prim.Native.Nat.{ℕ}
use lib.IntN.{ℤ, pos, negsuc}
use Rattle.fitting.specs.declared.Fit.{Fit}
use Rattle.fitting.specs.Fit.{count, whole, added, copies, excess, squeezed, overlap, start, fit_of}

abbrev fit : ℕ → ℤ → ℤ → Fit
fit copies overlap start = record { copies = copies; overlap = overlap; start = start }

-- "repeating tile 4": two copies that overlap by 1
tile-squeezed : fit_of (pos 10) (pos 4) 1 ≡ fit 2 (pos 1) (pos 0)
unfolding fit_of copies overlap start squeezed excess added whole count
tile-squeezed = refl

-- "Tile 5": an exact fit, and nothing is taken off the room
tile-exact : fit_of (pos 10) (pos 5) 1 ≡ fit 1 (pos 0) (pos 5)
unfolding fit_of copies overlap start squeezed excess added whole count
tile-exact = refl

-- "Repeating tile 0": one copy, from the middle; so a tile of -4
tile-without-width : fit_of (pos 10) (pos 0) 1 ≡ fit 1 (pos 0) (pos 5)
unfolding fit_of copies overlap start squeezed excess added whole count
tile-without-width = refl

tile-below_zero : fit_of (pos 10) (negsuc 3) 1 ≡ fit 1 (pos 0) (pos 5)
unfolding fit_of copies overlap start squeezed excess added whole count
tile-below_zero = refl

-- "Fixed tile 13 after advance 10": a room of -3, whose half is -1
room-below_zero : fit_of (negsuc 2) (pos 0) 0 ≡ fit 0 (pos 0) (negsuc 0)
unfolding fit_of copies overlap start squeezed excess added whole count
room-below_zero = refl

-- the largest room, a tile of 2 ^ 30: products and excess are exact
room-largest : fit_of (pos 2147483647) (pos 1073741824) 1 ≡ fit 1 (pos 1) (pos 0)
unfolding fit_of copies overlap start squeezed excess added whole count
room-largest = refl
