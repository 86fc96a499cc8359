-- A run and its word, measured record by record: `Summing` the sums of a run so far, and what they become at a fixed tile, at a repeating one, and at the end (`summing_fixed`, `summing_repeating`, `summing_ends`); the sum over a word
-- likewise (`word_more`, `word-ends`); by an action whether it is a tile's (`tile-fixed`, `tile-repeating`, `tile-none`, `tile-above`, `tile-below`).
-- Assumes nothing.
use mathlib.Core.Path.{◌≡◌, refl, ◌∙◌}
use mathlib.Core.Bool.{Bool, true, false, ◌||◌}
use mathlib.Core.List.{List, [], ◌∷◌, map}
use Prim.Native.Nat.{ℕ, ◌+◌, ◌≤◌, ◌<◌}
use native.Mathlib.Omega.{arith}
use borrow.Author.Tests.{eq-eqb, ne_eqb, eqb-false}
use lib.Dec.{eqb}
use lib.ListN.{length}
use lib.IntN.{ℤ, pos}
use Rattle.laws.specs.Lists.{those, front}
use Rattle.letters.specs.Actions.{fixed, repeating}
use Rattle.fitting.specs.Saturating.{sat_add_lem}
use Rattle.runs.specs.Records.{Record}
use Rattle.runs.specs.Runs.{acts, tile_action, in_word, run, sum, width_of, tiles}
use Rattle.runs.specs.Measured.{sums_of}
use Rattle.runs.specs.declared.Sums.{Sums}

-- ---- a tile by its action
pub tile-fixed : {a : ℕ} → a ≡ fixed → tile_action a ≡ true
unfolding tile_action
tile-fixed e = rw e

pub tile-repeating : {a : ℕ} → a ≡ repeating → tile_action a ≡ true
unfolding tile_action
tile-repeating e = rw e

pub tile-none : {a : ℕ} → (a ≡ fixed → ⊥) → (a ≡ repeating → ⊥) → tile_action a ≡ false
unfolding tile_action
tile-none {a} f g = rw (ne_eqb a fixed f, ne_eqb a repeating g)

-- where no action is above the repeating one
pub tile-above : (a : ℕ) → fixed ≤ a → a ≤ repeating → tile_action a ≡ true
unfolding tile_action
tile-above a h g = at (eqb a fixed) refl
  where
    at : (t : Bool) → eqb a fixed ≡ t → (t || eqb a repeating) ≡ true
    at true e = refl
    at false e = eq-eqb a repeating (let n = eqb-false a fixed e in omega arith)

pub tile-below : (a : ℕ) → a < fixed → tile_action a ≡ false
tile-below a h = tile-none (λ e. omega arith) (λ e. omega arith)

-- ---- the sums of the run that l begins with, of which m is still to come
abbrev pub widths_of : ℕ → List Record → List ℤ
widths_of action l = map (λ (r : Record). r.width) (those (acts action) (run l))

pub record Summing (from : ℕ) (l : List Record) (k : ℕ) (m : List Record) (fixed_sum repeating_sum : ℤ) (n : ℕ) : Type 0 where
  pub fixed_width : width_of fixed l ≡ sum fixed_sum (widths_of fixed m)
  pub repeating_width : width_of repeating l ≡ sum repeating_sum (widths_of repeating m)
  pub count : tiles l ≡ n + length (those (acts repeating) (run m))
  pub past : from + length (run l) ≡ k + length (run m)

pub summing_starts : (from : ℕ) (l : List Record) → Summing from l from l (pos 0) (pos 0) 0
unfolding tiles
summing_starts from l = record { fixed_width = refl; repeating_width = refl; count = omega arith; past = refl }

module _ {from k n : ℕ} {l m : List Record} {r : Record} {f p : ℤ} (s : Summing from l k (r ∷ m) f p n) where
  pub summing_fixed : r.action ≡ fixed → Summing from l (k + 1) m (sat_add_lem f r.width) p n
  unfolding sum tile_action
  summing_fixed e = record {
    fixed_width = s.fixed_width ∙ rw e;
    repeating_width = s.repeating_width ∙ rw e;
    count = s.count ∙ rw e;
    past = s.past ∙ rw e (omega arith);
  }

  pub summing_repeating : r.action ≡ repeating → Summing from l (k + 1) m f (sat_add_lem p r.width) (n + 1)
  unfolding sum tile_action
  summing_repeating e = record {
    fixed_width = s.fixed_width ∙ rw e;
    repeating_width = s.repeating_width ∙ rw e;
    count = s.count ∙ rw e (omega arith);
    past = s.past ∙ rw e (omega arith);
  }

-- the run is at its end
module _ {from k n : ℕ} {l m : List Record} {f p : ℤ} (s : Summing from l k m f p n) (e : run m ≡ []) where
  pub summing_ends : sums_of from l ≡ record { fixed = f; repeating = p; tiles = n; past = k }
  unfolding sum sums_of
  summing_ends = sums_same (s.fixed_width ∙ rw e) (s.repeating_width ∙ rw e) (s.count ∙ rw e (omega arith)) (s.past ∙ rw e (omega arith))
    where
      sums_same : {f g p q : ℤ} {n m i j : ℕ} → f ≡ g → p ≡ q → n ≡ m → i ≡ j → ◌≡◌ {A = Sums} record { fixed = f; repeating = p; tiles = n; past = i } record { fixed = g; repeating = q; tiles = m; past = j }
      sums_same a b c d = cc

-- ---- the sum over a word
abbrev pub advances_of : List Record → List ℤ
advances_of l = map (λ (r : Record). r.advance) (front in_word l)

module _ (s : ℤ) (r : Record) (rs : List Record) where
  pub word_more : in_word r ≡ true → sum s (advances_of (r ∷ rs)) ≡ sum (sat_add_lem s r.advance) (advances_of rs)
  unfolding sum
  word_more e = rw e

  pub word-ends : in_word r ≡ false → sum s (advances_of (r ∷ rs)) ≡ s
  unfolding sum
  word-ends e = rw e
