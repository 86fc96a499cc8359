-- A run that is placed: `EvenTiles` what it asks of its line; `pieces_from` its pieces; `after` where the next piece starts; `Placeable`, `RunPlaced` what placing a run asks for and promises.
-- Assumes nothing.
use Rattle.std.specs.Prelude.{◌≡◌, Bool, List, [], ◌∷◌, ℕ, ◌+◌, ◌≤◌, length, ℤ}
use Rattle.std.proofs.Math.Seq.{slice}
use denote.Triple.Both.{Both}
use Rattle.runs.specs.Records.{Columns}
use Rattle.runs.specs.Stretched.{work, Piece, run_pieces, next, placed}
use Rattle.runs.specs.declared.Measured.{Measured}
use Rattle.copying.specs.Pasted.{Roomy}
use Rattle.laying.specs.Laid.{LaidIn}

-- the columns that copies keep are of one length
pub record EvenTiles (c : Columns) : Type 0 where
  pub tile_glyphs : length c.glyphs ≡ length c.actions
  pub tile_widths : length c.widths ≡ length c.actions
  pub tile_categories : length c.categories ≡ length c.actions
  pub tile_ignorables : length c.ignorables ≡ length c.actions

-- the pieces of the run whose records come from the k-th on
unfoldable pub pieces_from : Bool → ℕ → Measured → Columns → List Piece
pieces_from rtl k run c = run_pieces run.copies run.overlap (slice k run.past (work rtl c))

-- the offset from which the piece behind these is placed
unfoldable pub after : Bool → ℤ → List Piece → ℤ
after rtl x [] = x
after rtl x (p ∷ ps) = after rtl (next rtl x p) ps

-- the run is one of the line, and its pieces come among the m of the output
pub record Placeable (rtl : Bool) (k : ℕ) (run : Measured) (line : Columns) (m at : ℕ) (output : Columns) : Type 0 where
  pub begun : k ≤ run.past
  pub inside : run.past ≤ length line.actions
  pub even : EvenTiles line
  pub there : at + length (pieces_from rtl k run line) ≤ m
  pub room : Roomy m output

-- the place that comes then, and the pieces, placed, in the output
pub record RunPlaced (rtl : Bool) (k : ℕ) (run : Measured) (line : Columns) (m at r : ℕ) (output : Both Columns Columns) : Type 0 where
  pub comes_then : r ≡ at + length (pieces_from rtl k run line)
  pub pieces_laid : LaidIn rtl m at (placed rtl run.start (pieces_from rtl k run line)) output
