-- The work, run by run: what is left at a record that is no tile (`worked-plain`, `added-plain`), and at the first tile of a run (`worked-run`, `added-run`); from the next run on (`AtRun`, `at-run`, `added-skips`, `worked-skips`, `worked-at-run`, `added-at-run`); how many records a run and the whole line become (`length-placed`, `length_run`, `length-worked`, `length-stretched`).
-- Assumes nothing.
use mathlib.Core.Path.{◌≡◌, refl, sym, ap, ◌∙◌}
use mathlib.Core.Bool.{Bool, true, false, cond, not}
use mathlib.Core.List.{List, [], ◌∷◌, ◌++◌}
use Prim.Native.Nat.{ℕ, suc, ◌+◌, ◌*◌, ◌<◌}
use native.Mathlib.Nat.{mul-suc}
use native.Mathlib.Omega.{arith}
use lib.ListN.{length, length-append, length-replicate}
use lib.IntN.{ℤ}
use Rattle.laws.specs.Lists.{those, behind}
use Rattle.laws.proofs.ListLaws.{length-parted}
use Rattle.letters.specs.Actions.{repeating}
use Rattle.runs.specs.Records.{Record, kept}
use Rattle.runs.specs.declared.Tile.{Tile}
use Rattle.runs.specs.Runs.{acts, is_tile, is_plain, plain, run, past_run, tiles, copies_of}
use Rattle.runs.specs.Stretched.{next, Piece, piece, pieces, copies_for, run_pieces, in_order, placed, placed_run, worked, stretched, records_added}
use Rattle.runs.proofs.RecordLaws.{length_in_order}

-- ---- at a record that is no tile
module _ (r : Record) (rs : List Record) (e : is_tile r ≡ false) where
  pub worked-plain : (rtl inside : Bool) → worked rtl inside (r ∷ rs) ≡ r ∷ worked rtl false rs
  unfolding worked
  worked-plain rtl inside = rw e

  pub added-plain : (inside : Bool) → records_added inside (r ∷ rs) ≡ records_added false rs
  unfolding records_added
  added-plain inside = rw e

-- ---- inside a run nothing is left to do before its end
module _ (rtl : Bool) where
  worked-past : (l : List Record) → worked rtl true l ≡ worked rtl false (past_run l)
  unfolding worked
  worked-past [] = refl
  worked-past (r ∷ rs) = go (is_tile r) refl (worked-past rs)
    where
      go : (t : Bool) → is_tile r ≡ t → worked rtl true rs ≡ worked rtl false (past_run rs)
          → cond t ([] ++ worked rtl true rs) (r ∷ worked rtl false rs) ≡ worked rtl false (cond t (past_run rs) (r ∷ rs))
      go true e h = h
      go false e h = sym (worked-plain r rs e rtl false)

  -- at the first tile of a run
  pub worked-run : (r : Record) (rs : List Record) → is_tile r ≡ true → worked rtl false (r ∷ rs) ≡ placed_run rtl (r ∷ rs) ++ worked rtl false (past_run (r ∷ rs))
  unfolding worked
  worked-run r rs e = rw e (ap (λ (l : List Record). placed_run rtl (r ∷ rs) ++ l) (worked-past rs))

added-past : (l : List Record) → records_added true l ≡ records_added false (past_run l)
unfolding records_added
added-past [] = refl
added-past (r ∷ rs) = go (is_tile r) refl (added-past rs)
  where
    go : (t : Bool) → is_tile r ≡ t → records_added true rs ≡ records_added false (past_run rs)
        → cond t (0 + records_added true rs) (records_added false rs) ≡ records_added false (cond t (past_run rs) (r ∷ rs))
    go true e h = omega (arith, h)
    go false e h = sym (added-plain r rs e false)

pub added-run : (r : Record) (rs : List Record) → is_tile r ≡ true → records_added false (r ∷ rs) ≡ copies_of (r ∷ rs) * tiles (r ∷ rs) + records_added false (past_run (r ∷ rs))
unfolding records_added
added-run r rs e = rw e (ap (λ (n : ℕ). copies_of (r ∷ rs) * tiles (r ∷ rs) + n) (added-past rs))

-- ---- from the next run on
-- a list at which a run begins, or nothing is left
abbrev pub AtRun : List Record → Type 0
AtRun [] = Unit
AtRun (r ∷ rs) = is_tile r ≡ true

pub at-run : (l : List Record) → AtRun (behind is_plain l)
at-run [] = tt
at-run (r ∷ rs) = go (is_tile r) refl (at-run rs)
  where
    go : (t : Bool) → is_tile r ≡ t → AtRun (behind is_plain rs) → AtRun (cond (not t) (behind is_plain rs) (r ∷ rs))
    go true e h = e
    go false e h = h

-- it has a record of that run
pub run-some : (l : List Record) → AtRun l → 0 < length l → 0 < length (run l)
run-some [] e h = absurd (omega arith)
run-some (r ∷ rs) e h = rw e (omega arith)

pub added-skips : (l : List Record) → records_added false l ≡ records_added false (behind is_plain l)
added-skips [] = refl
added-skips (r ∷ rs) = go (is_tile r) refl (added-skips rs)
  where
    go : (t : Bool) → is_tile r ≡ t → records_added false rs ≡ records_added false (behind is_plain rs) → records_added false (r ∷ rs) ≡ records_added false (cond (not t) (behind is_plain rs) (r ∷ rs))
    go true e h = refl
    go false e h = added-plain r rs e false ∙ h

pub worked-skips : (rtl : Bool) (l : List Record) → worked rtl false l ≡ plain l ++ worked rtl false (behind is_plain l)
worked-skips rtl [] = refl
worked-skips rtl (r ∷ rs) = go (is_tile r) refl (worked-skips rtl rs)
  where
    go : (t : Bool) → is_tile r ≡ t → worked rtl false rs ≡ plain rs ++ worked rtl false (behind is_plain rs)
        → worked rtl false (r ∷ rs) ≡ cond (not t) (r ∷ plain rs) [] ++ worked rtl false (cond (not t) (behind is_plain rs) (r ∷ rs))
    go true e h = refl
    go false e h = worked-plain r rs e rtl false ∙ ap (λ (l : List Record). r ∷ l) h

-- the run that a list begins with, and what is left behind it; where nothing is left, neither adds or leaves anything
pub worked-at-run : (rtl : Bool) (l : List Record) → AtRun l → worked rtl false l ≡ placed_run rtl l ++ worked rtl false (past_run l)
unfolding worked placed_run run_pieces placed
worked-at-run rtl [] e = refl
worked-at-run rtl (r ∷ rs) e = worked-run rtl r rs e

pub added-at-run : (l : List Record) → AtRun l → records_added false l ≡ copies_of l * tiles l + records_added false (past_run l)
unfolding records_added tiles
added-at-run [] e = omega arith
added-at-run (r ∷ rs) e = added-run r rs e

-- ---- how many records
pub length-placed : (rtl : Bool) (x : ℤ) (ps : List Piece) → length (placed rtl x ps) ≡ length ps
unfolding placed
length-placed rtl x [] = refl
length-placed rtl x (p ∷ ps) = ap suc (length-placed rtl (next rtl x p) ps)

pub length-pieces : (n : ℕ) (overlap : ℤ) (t : Tile) → length (pieces n overlap t) ≡ 1 + n
unfolding pieces
length-pieces n overlap t = rw (length-replicate n (piece t overlap)) (omega arith)

length-run-pieces : (copies : ℕ) (overlap : ℤ) (l : List Record) → length (run_pieces copies overlap l) ≡ length l + copies * length (those (acts repeating) l)
unfolding run_pieces
length-run-pieces copies overlap [] = omega arith
length-run-pieces copies overlap (r ∷ rs) =
    length-append (pieces (copies_for copies r) overlap (kept r)) (run_pieces copies overlap rs)
    ∙ rw (length-pieces (copies_for copies r) overlap (kept r), length-run-pieces copies overlap rs) (go (acts repeating r))
  where
    go : (t : Bool) → 1 + cond t copies 0 + (length rs + copies * length (those (acts repeating) rs)) ≡ suc (length rs) + copies * length (cond t (r ∷ those (acts repeating) rs) (those (acts repeating) rs))
    go true = rw (mul-suc copies (length (those (acts repeating) rs))) (omega arith)
    go false = omega arith

pub length_run : (rtl : Bool) (l : List Record) → length (placed_run rtl l) ≡ length (run l) + copies_of l * tiles l
unfolding placed_run tiles
length_run rtl l = length-placed rtl _ _ ∙ length-run-pieces _ _ (run l)

-- the records that are still to be worked on
abbrev ahead : Bool → List Record → List Record
ahead inside l = cond inside (past_run l) l

pub length-worked : (rtl inside : Bool) (l : List Record) → length (worked rtl inside l) ≡ length (ahead inside l) + records_added inside l
unfolding worked records_added
length-worked rtl true [] = refl
length-worked rtl false [] = refl
length-worked rtl inside (r ∷ rs) = go (is_tile r) refl inside (length-worked rtl true rs) (length-worked rtl false rs)
  where
    go : (t : Bool) → is_tile r ≡ t → (i : Bool) → length (worked rtl true rs) ≡ length (past_run rs) + records_added true rs → length (worked rtl false rs) ≡ length rs + records_added false rs
        → length (cond t (cond i [] (placed_run rtl (r ∷ rs)) ++ worked rtl true rs) (r ∷ worked rtl false rs))
        ≡ length (cond i (cond t (past_run rs) (r ∷ rs)) (r ∷ rs)) + cond t (cond i 0 (copies_of (r ∷ rs) * tiles (r ∷ rs)) + records_added true rs) (records_added false rs)
    go true e true h g = omega (arith, h)
    go true e false h g =
        let past : past_run (r ∷ rs) ≡ past_run rs = rw e in
        let parts = length-parted is_tile (r ∷ rs) in
        omega (arith, h, parts, ap length past, length-append (placed_run rtl (r ∷ rs)) (worked rtl true rs), length_run rtl (r ∷ rs))
    go false e true h g = omega (arith, g)
    go false e false h g = omega (arith, g)

-- "The count of records added equals copies × tiles summed over the runs"
pub length-stretched : (rtl : Bool) (l : List Record) → length (stretched rtl l) ≡ length l + records_added false (in_order rtl l)
unfolding stretched
length-stretched rtl l =
    length_in_order rtl (worked rtl false (in_order rtl l)) ∙ length-worked rtl false (in_order rtl l) ∙ rw length_in_order
