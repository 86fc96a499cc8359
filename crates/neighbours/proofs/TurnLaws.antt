-- A turn of each walk outward from a place, over the columns that it reads: past a transparent letter, the end at any other, and past the line.
-- Assumes nothing.
use mathlib.Core.Path.{◌≡◌, refl, sym, ap, ◌∙◌}
use mathlib.Core.Bool.{true, false}
use mathlib.Core.List.{List}
use Prim.Native.Nat.{ℕ, ◌+◌, ◌<◌}
use native.Mathlib.Nat.{add-zero}
use native.Mathlib.Omega.{arith}
use borrow.Author.Tests.{eq-eqb, ne_eqb}
use lib.Dec.{eqb}
use lib.ListN.{length, get_or}
use Rattle.letters.specs.Types.{T, resolved}
use Rattle.shapes.specs.Joining.{nearest, line_types}
use Rattle.shapes.specs.Places.{place_of}
use Rattle.shapes.proofs.JoiningLaws.{length-line_types, line_types-at, line_types-end}
use Rattle.joining.specs.Joinable.{Joinable}
use Rattle.neighbours.specs.declared.Neighbour.{Neighbour}
use Rattle.neighbours.specs.Beside.{StandsBefore, StandsFrom}
use Rattle.neighbours.proofs.NeighbourLaws.{nearest-here, latest-here, place_before-here, place_of-here}

-- the walk has read t at place j
module _ {ts cs : List ℕ} (letters : Joinable ts cs) (j t : ℕ) (e : t ≡ resolved (get_or ts j 0) (get_or cs j 0)) (h : j < length ts) where
  here : get_or (line_types ts cs) j 0 ≡ t
  here = line_types-at ts cs j letters.even h ∙ sym e

  within : j < length (line_types ts cs)
  within = omega (arith, length-line_types ts cs letters.even)

  module _ (q : t ≡ T) where
    passes : eqb (get_or (line_types ts cs) j 0) T ≡ true
    passes = eq-eqb _ T (here ∙ q)

    pub before-skips : (b i : ℕ) {found : Neighbour} → i ≡ j + 1 → StandsBefore (line_types ts cs) j b found → StandsBefore (line_types ts cs) i b found
    before-skips b i s f =
        record {
          place = f.place ∙ sym (rw s (place_before-here (line_types ts cs) j ∙ simp passes));
          letter = f.letter ∙ sym (rw s (latest-here (line_types ts cs) j within b ∙ simp passes));
        }

    pub from-skips : (a : ℕ) {found : Neighbour} → StandsFrom (line_types ts cs) (j + 1) a found → StandsFrom (line_types ts cs) j a found
    from-skips a f =
        record {
          place = f.place ∙ sym (place_of-here (line_types ts cs) j within ∙ simp passes);
          letter = f.letter ∙ sym (nearest-here (line_types ts cs) j within a ∙ simp passes);
        }

  module _ (q : t ≡ T → ⊥) where
    stops : eqb (get_or (line_types ts cs) j 0) T ≡ false
    stops = ne_eqb _ T (λ r. q (sym here ∙ r))

    pub before-stops : (b i : ℕ) → i ≡ j + 1 → StandsBefore (line_types ts cs) i b (record { place = j; letter = record { 0 = t } })
    before-stops b i s =
        record {
          place = sym (rw s (place_before-here (line_types ts cs) j ∙ simp stops));
          letter = sym (rw s (latest-here (line_types ts cs) j within b ∙ simp stops here));
        }

    pub from-stops : (a : ℕ) → StandsFrom (line_types ts cs) j a (record { place = j; letter = record { 0 = t } })
    from-stops a =
        record {
          place = sym (place_of-here (line_types ts cs) j within ∙ simp stops);
          letter = sym (nearest-here (line_types ts cs) j within a ∙ simp stops here);
        }

-- the walk has come to an end of the line
module _ {ts cs : List ℕ} (letters : Joinable ts cs) where
  pub before-ends : (b i : ℕ) → i ≡ 0 → StandsBefore (line_types ts cs) i b (record { place = length ts; letter = record { 0 = b } })
  before-ends b i z = record { place = rw z (sym (length-line_types ts cs letters.even)); letter = rw z refl }

  pub from-ends : (a i : ℕ) → i ≡ length ts → StandsFrom (line_types ts cs) i a (record { place = length ts; letter = record { 0 = a } })
  from-ends a i e =
      let end = line_types-end ts cs i letters.even (omega (arith, e)) in
      record {
        place = sym (ap (λ (l : List ℕ). i + place_of l) end ∙ add-zero i ∙ e);
        letter = sym (ap (λ (l : List ℕ). nearest l a) end);
      }
