-- What a walk outward from a place of a line finds: `StandsBefore`, `StandsFrom`.
-- Assumes nothing.
use Rattle.std.specs.Prelude.{◌≡◌, List, ℕ, ◌+◌, take, drop}
use Rattle.shapes.specs.Joining.{latest, nearest}
use Rattle.shapes.specs.Places.{place_before, place_of}
use Rattle.neighbours.specs.declared.Neighbour.{Neighbour}

-- the nearest letter before place k of the line ts, and where it stands; where there is none, b and the length of the line
pub record StandsBefore (ts : List ℕ) (k b : ℕ) (found : Neighbour) : Type 0 where
  pub place : found.place ≡ place_before ts k
  pub letter : found.letter.0 ≡ latest b (take k ts)

-- the nearest letter from place k of the line ts on, k itself included; where there is none, a and the length of the line
pub record StandsFrom (ts : List ℕ) (k a : ℕ) (found : Neighbour) : Type 0 where
  pub place : found.place ≡ k + place_of (drop k ts)
  pub letter : found.letter.0 ≡ nearest (drop k ts) a
