-- A run placed tile by tile: pieces placed in two parts (`placed-append`); `Running` what the loop carries, and what a turn and the end make of it (`running_starts`, `running_fits`, `running_next`, `running_ends`).
-- Assumes nothing.
use mathlib.Core.Path.{◌≡◌, refl, sym, ap, ap₂, ◌∙◌}
use mathlib.Core.Bool.{Bool, cond}
use mathlib.Core.List.{List, [], ◌∷◌, ◌++◌}
use Prim.Native.Nat.{ℕ, suc, ◌+◌, ◌≤◌, ◌<◌}
use native.Mathlib.Omega.{arith}
use lib.Dec.{eqb}
use lib.ListN.{length, get_or, length-append}
use lib.Seq.{slice, slice-cons, slice_empty}
use lib.IntN.{ℤ, pos}
use Rattle.letters.specs.Actions.{repeating}
use Rattle.runs.specs.declared.Tile.{Tile}
use Rattle.runs.specs.Records.{Record, Columns, record_at, kept, put}
use Rattle.runs.specs.Stretched.{work, part_of, Piece, pieces, copies_for, run_pieces, placed, next, offset_at}
use Rattle.runs.proofs.RecordLaws.{blank, length-work, work-at}
use Rattle.runs.proofs.StretchedLaws.{length-placed, length-pieces}
use Rattle.copying.specs.Pasted.{Roomy}
use Rattle.laying.specs.Laid.{laid}
use Rattle.placing.specs.Placed.{after}
use Rattle.copying.proofs.ColumnsLaws.{SameLengths, same-lengths, lengths-then, roomy-same}
use Rattle.laying.proofs.LaidLaws.{laid_none, laid_then, lengths-laid}

pub placed-append : (rtl : Bool) (x : ℤ) (ps qs : List Piece) → placed rtl x (ps ++ qs) ≡ placed rtl x ps ++ placed rtl (after rtl x ps) qs
unfolding placed after
placed-append rtl x [] qs = refl
placed-append rtl x (p ∷ ps) qs = ap (λ (l : List Record). put p.of (pos 0) (offset_at rtl x p) ∷ l) (placed-append rtl (next rtl x p) ps qs)

-- a tile read from the columns
pub tile-is : {t : Tile} {w : ℤ} → w ≡ t.width → ◌≡◌ {A = Tile} record { glyph = t.glyph; width = w; category = t.category; ignorable = t.ignorable; action = t.action } t
tile-is {t} e = ap (λ (v : ℤ). record { glyph = t.glyph; width = v; category = t.category; ignorable = t.ignorable; action = t.action }) e

-- the pieces of the records from the i-th on are still to come, the next from the offset x and the place `there` on; they make all columns what they are to be, and the place behind them what it is to be
pub record Running (rtl : Bool) (m past copies : ℕ) (overlap : ℤ) (c start goal : Columns) (last i there : ℕ) (x : ℤ) (b : Columns) : Type 0 where
  pub fits : i ≤ past
  pub same : SameLengths start b
  pub whole : goal ≡ laid rtl m there (placed rtl x (run_pieces copies overlap (slice i past (work rtl c)))) b
  pub ahead : last ≡ there + length (run_pieces copies overlap (slice i past (work rtl c)))

module _ (rtl : Bool) (m : ℕ) (c start : Columns) where
  pub running_starts :
      (k at past copies : ℕ) (overlap x : ℤ) → k ≤ past
      → Running rtl m past copies overlap c start (laid rtl m at (placed rtl x (run_pieces copies overlap (slice k past (work rtl c)))) start) (at + length (run_pieces copies overlap (slice k past (work rtl c)))) k at x start
  running_starts k at past copies overlap x h = record { fits = h; same = same-lengths start; whole = refl; ahead = refl }

  module _ (past copies : ℕ) (overlap : ℤ) (goal : Columns) (last i there : ℕ) (x : ℤ) (b : Columns) (s : Running rtl m past copies overlap c start goal last i there x b) (g : past ≤ length c.actions) (l : last ≤ m) where
    -- the tile at hand, at place p of the line, and the number of its copies
    module _ (h : i < past) (p : ℕ) (e : p ≡ part_of rtl (length c.actions) i 1) (t : Tile) (et : t ≡ kept (record_at c p)) (n : ℕ) (en : n ≡ cond (eqb t.action repeating) copies 0) where
      tile-first : run_pieces copies overlap (slice i past (work rtl c)) ≡ pieces n overlap t ++ run_pieces copies overlap (slice (i + 1) past (work rtl c))
      unfolding run_pieces
      tile-first =
          let k : i + 1 ≡ suc i = omega arith in
          let here : get_or (work rtl c) i blank ≡ record_at c p = work-at rtl c i (omega arith) ∙ ap (record_at c) (sym e) in
          let number : copies_for copies (record_at c p) ≡ n = sym (en ∙ ap (λ (q : Tile). cond (eqb q.action repeating) copies 0) et) in
          rw k (ap (run_pieces copies overlap) (slice-cons i past (work rtl c) blank h (rw (length-work rtl c) g) ∙ ap (λ (r : Record). r ∷ slice (suc i) past (work rtl c)) here)
          ∙ ap₂ (λ (j : ℕ) (q : Tile). pieces j overlap q ++ run_pieces copies overlap (slice (suc i) past (work rtl c))) number (sym et))

      long : length (run_pieces copies overlap (slice i past (work rtl c))) ≡ 1 + n + length (run_pieces copies overlap (slice (i + 1) past (work rtl c)))
      long = ap length tile-first ∙ length-append (pieces n overlap t) (run_pieces copies overlap (slice (i + 1) past (work rtl c))) ∙ ap (λ (j : ℕ). j + length (run_pieces copies overlap (slice (i + 1) past (work rtl c)))) (length-pieces n overlap t)

      -- it has room
      pub running_fits : there + (1 + n) ≤ m
      running_fits = omega (arith, s.ahead, long)

      pub running_next :
          Roomy m start → (y : ℤ) → y ≡ after rtl x (pieces n overlap t) → (d : Columns) → d ≡ laid rtl m there (placed rtl x (pieces n overlap t)) b
          → Running rtl m past copies overlap c start goal last (i + 1) (there + (1 + n)) y d
      running_next room y ey d ed =
          let here = roomy-same s.same room in
          let rest = run_pieces copies overlap (slice (i + 1) past (work rtl c)) in
          let first-long : length (placed rtl x (pieces n overlap t)) ≡ 1 + n = length-placed rtl x (pieces n overlap t) ∙ length-pieces n overlap t in
          let rest-long = length-placed rtl y rest in
          record {
            fits = omega arith;
            same = rw ed (lengths-then s.same (lengths-laid rtl m there (placed rtl x (pieces n overlap t)) b here (omega (arith, running_fits, first-long))));
            whole = s.whole
                ∙ ap (λ (k : List Record). laid rtl m there k b) (ap (placed rtl x) tile-first ∙ placed-append rtl x (pieces n overlap t) rest ∙ ap (λ (v : ℤ). placed rtl x (pieces n overlap t) ++ placed rtl v rest) (sym ey))
                ∙ laid_then rtl m b here there (there + (1 + n)) (placed rtl x (pieces n overlap t)) (placed rtl y rest) (omega (arith, first-long)) (omega (arith, s.ahead, long, rest-long))
                ∙ ap (laid rtl m (there + (1 + n)) (placed rtl y rest)) (sym ed);
            ahead = s.ahead ∙ omega (arith, long);
          }

    pub running_ends : past ≤ i → (there ≡ last) × (b ≡ goal)
    unfolding run_pieces placed
    running_ends h =
        let e : i ≡ past = omega (arith, s.fits) in
        let none : slice i past (work rtl c) ≡ [] = ap (λ (j : ℕ). slice j past (work rtl c)) e ∙ slice_empty past (work rtl c) in
        (omega (arith, s.ahead, ap (λ (k : List Record). length (run_pieces copies overlap k)) none), sym (s.whole ∙ rw none (laid_none rtl m b there)))
