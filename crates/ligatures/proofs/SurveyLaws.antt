-- The walk that finds the extent of the rules: what it found, with what is to come, is the whole (`Surveyed`); it begins (`survey_begins`), a set is next (`survey_next`), none is left (`survey_ends`).
-- Assumes nothing.
use mathlib.Core.Path.{◌≡◌, refl, sym, ap, ◌∙◌}
use mathlib.Core.List.{List}
use Prim.Native.Nat.{ℕ, ◌+◌, ◌-◌, ◌≤◌, max}
use native.Mathlib.Nat.{add-zero}
use native.Mathlib.Omega.{arith}
use lib.ListN.{length}
use Rattle.layouts.specs.Extents.{longest, last_from}
use Rattle.ligatures.specs.Places.{part, sets_from, SetAt}
use Rattle.ligatures.proofs.PlaceLaws.{length_part, sets-none}

pub record Surveyed (n : ℕ) (cs ls : List ℕ) (count most last i : ℕ) : Type 0 where
  pub upto : i ≤ length ls
  pub few : count ≤ i
  pub counted : length (sets_from n cs ls 0) ≡ count + length (sets_from n cs ls i)
  pub compared : longest (sets_from n cs ls 0) ≡ max most (longest (sets_from n cs ls i))
  pub passed : last_from 0 0 (sets_from n cs ls 0) ≡ last_from last i (sets_from n cs ls i)

pub survey_begins : (n : ℕ) (cs ls : List ℕ) → Surveyed n cs ls 0 0 0 0
survey_begins n cs ls = record { upto = omega arith; few = omega arith; counted = omega arith; compared = omega arith; passed = refl }

module _ {n : ℕ} {cs ls : List ℕ} {count most last i : ℕ} (s : Surveyed n cs ls count most last i) where
  pub survey_next : {e : ℕ} → SetAt n cs ls i e → (m : ℕ) → m ≡ max most (e - i) → (b : ℕ) → b ≡ i → Surveyed n cs ls (count + 1) m b e
  unfolding longest last_from
  survey_next {e} a m g b begins =
      let long : length (part n cs ls i e) ≡ e - i = length_part n cs ls i e a.within in
      let sum : i + (e - i) ≡ e = omega (arith, a.after) in
      record {
        upto = a.within;
        few = omega (arith, a.after, s.few);
        counted = s.counted ∙ rw a.split (omega arith);
        compared = s.compared ∙ rw (a.split, long) (omega arith);
        passed = s.passed ∙ rw (a.split, begins) (ap (λ (k : ℕ). last_from i k (sets_from n cs ls e)) (ap (λ (m : ℕ). i + m) long ∙ sum));
      }

  pub survey_ends :
      length ls ≤ i → (count ≡ length (sets_from n cs ls 0)) × (most ≡ longest (sets_from n cs ls 0)) × (last ≡ last_from 0 0 (sets_from n cs ls 0))
  unfolding longest last_from
  survey_ends h =
      let none = sets-none n cs ls i h in (
        sym (s.counted ∙ rw none (add-zero count)),
        sym (s.compared ∙ rw none (omega arith)),
        sym (s.passed ∙ rw none),
      )
