-- A tile and its copies, placed one by one: `laps` the pieces still to come; `Laying` what the loop carries, and what a turn and the end make of it (`laying_starts`, `laying_next`, `laying_ends`).
-- Assumes nothing.
use mathlib.Core.Path.{◌≡◌, refl, sym, ap, ap₂, ◌∙◌}
use mathlib.Core.Bool.{Bool, cond}
use mathlib.Core.List.{List, [], ◌∷◌, ◌++◌}
use Prim.Native.Nat.{ℕ, zero, suc, ◌+◌, ◌-◌, ◌≤◌, ◌<◌}
use native.Mathlib.Omega.{arith}
use lib.ListN.{length, set, replicate, length-replicate}
use lib.IntN.{ℤ, pos}
use Rattle.runs.specs.declared.Tile.{Tile}
use Rattle.runs.specs.Records.{Record, Columns, columns, put}
use Rattle.runs.specs.Stretched.{part_of, Piece, piece, pieces, moved, next, offset_at, placed}
use Rattle.runs.proofs.StretchedLaws.{length-placed}
use Rattle.copying.specs.Pasted.{Roomy}
use Rattle.laying.specs.Laid.{laid}
use Rattle.placing.specs.Placed.{after}
use Rattle.copying.proofs.ColumnsLaws.{SameLengths, same-lengths, lengths-then, roomy-same}
use Rattle.laying.proofs.LaidLaws.{laid_none, laid_one, laid_then, lengths-laid}

-- of a tile, n pieces: the first overlaps by lap, the others by `overlap`
abbrev pub laps : Tile → ℤ → ℤ → ℕ → List Piece
laps t overlap lap zero = []
laps t overlap lap (suc n) = piece t lap ∷ replicate n (piece t overlap)

laps_again : (t : Tile) (overlap : ℤ) (n : ℕ) → replicate n (piece t overlap) ≡ laps t overlap overlap n
laps_again t overlap zero = refl
laps_again t overlap (suc n) = refl

-- the pieces from j to `end` are still to come, the next from the offset x on; they make all columns what they are to be, and the offset behind them what it is to be
pub record Laying (rtl : Bool) (m end : ℕ) (t : Tile) (overlap : ℤ) (start goal : Columns) (last : ℤ) (j : ℕ) (x lap : ℤ) (c : Columns) : Type 0 where
  pub fits : j ≤ end
  pub same : SameLengths start c
  pub whole : goal ≡ laid rtl m j (placed rtl x (laps t overlap lap (end - j))) c
  pub ahead : last ≡ after rtl x (laps t overlap lap (end - j))

module _ (rtl : Bool) (m end : ℕ) (t : Tile) (overlap : ℤ) (start : Columns) where
  pub laying_starts :
      (at times : ℕ) (x : ℤ) → end ≡ at + 1 + times
      → Laying rtl m end t overlap start (laid rtl m at (placed rtl x (pieces times overlap t)) start) (after rtl x (pieces times overlap t)) at x (pos 0) start
  unfolding pieces
  laying_starts at times x e =
      let n : end - at ≡ suc times = omega arith in
      record { fits = omega arith; same = same-lengths start; whole = rw n; ahead = rw n }

  module _ (goal : Columns) (last : ℤ) (j : ℕ) (x lap : ℤ) (c : Columns) (l : Laying rtl m end t overlap start goal last j x lap c) where
    pub laying_next :
        (room : Roomy m start) → end ≤ m → j < end → (i : ℕ) → i ≡ part_of rtl m j 1 → (y z : ℤ) → y ≡ moved rtl x t.width lap → z ≡ cond rtl y x
        → Laying rtl m end t overlap start goal last (j + 1) y overlap
        (columns (set c.glyphs i t.glyph.0) (set c.widths i t.width) (set c.categories i t.category) (set c.ignorables i t.ignorable) (set c.actions i t.action) (set c.advances i (pos 0)) (set c.offsets i z))
    unfolding next offset_at placed after
    laying_next room e h i at y z ey ez =
        let n : end - j ≡ suc (end - (j + 1)) = omega arith in
        let here = roomy-same l.same room in
        let r : Record = put t (pos 0) z in
        let one = laid_one rtl m c here j i r (omega arith) at in
        let rest : List Piece = replicate (end - (j + 1)) (piece t overlap) in
        let is-next : next rtl x (piece t lap) ≡ y = sym ey in
        let is-offset : offset_at rtl x (piece t lap) ≡ z = ap (λ (v : ℤ). cond rtl v x) (sym ey) ∙ sym ez in
        let first : placed rtl x (laps t overlap lap (end - j)) ≡ (r ∷ []) ++ placed rtl y (laps t overlap overlap (end - (j + 1))) =
        rw n (ap₂ (λ (o : ℤ) (v : ℤ). put t (pos 0) o ∷ placed rtl v rest) is-offset is-next ∙ ap (λ (p : List Piece). r ∷ placed rtl y p) (laps_again t overlap (end - (j + 1))))
        in
        let long : length (placed rtl y (laps t overlap overlap (end - (j + 1)))) ≡ end - (j + 1) =
        length-placed rtl y (laps t overlap overlap (end - (j + 1))) ∙ ap length (sym (laps_again t overlap (end - (j + 1)))) ∙ length-replicate (end - (j + 1)) (piece t overlap)
        in
        record {
          fits = omega arith;
          same = rw one (lengths-then l.same (lengths-laid rtl m j (r ∷ []) c here (omega arith)));
          whole = rw one (l.whole ∙ ap (λ (k : List Record). laid rtl m j k c) first ∙ laid_then rtl m c here j (j + 1) (r ∷ []) (placed rtl y (laps t overlap overlap (end - (j + 1)))) (omega arith) (omega (arith, long)));
          ahead = l.ahead ∙ rw n (ap (λ (v : ℤ). after rtl v rest) is-next ∙ ap (after rtl y) (laps_again t overlap (end - (j + 1))));
        }

    pub laying_ends : end ≤ j → (x ≡ last) × (c ≡ goal)
    unfolding placed after
    laying_ends h =
        let n : end - j ≡ 0 = omega arith in
        (sym (l.ahead ∙ rw n), sym (l.whole ∙ rw n (laid_none rtl m c j)))
