-- What is known of a line whose part was reordered: outside the part both columns stay (`outside-codes`, `outside-classes`).
-- Assumes nothing.
use mathlib.Core.Path.{sym, ap, ◌∙◌}
use mathlib.Core.List.{map}
use Prim.Native.Nat.{ℕ}
use lib.ListN.{length-map}
use Rattle.laws.proofs.PartLaws.{take-map, drop-map}
use Rattle.blocks.specs.Marks.{Mark}
use Rattle.blocks.proofs.MarkLaws.{codes-marks, classes-marks}
use Rattle.marks.specs.Reordered.{ReorderRequest, Columns, line, new_line, reordered}
use Rattle.marks.proofs.ReorderedLaws.{Allowed, before-new_line, behind-new_line, length-new_line}
use Rattle.demands.specs.Marks.{Outside}

module _ (q : ReorderRequest) (c : Columns) (a : Allowed q c) where
  -- a column, of codes or of classes
  outside_column : (f : Mark → ℕ) → Outside q (map f (line c)) (map f (new_line q c))
  outside_column f =
      record {
        before = take-map f q.start (new_line q c) ∙ ap (map f) (before-new_line q c a) ∙ sym (take-map f q.start (line c));
        behind = drop-map f q.end (new_line q c) ∙ ap (map f) (behind-new_line q c a) ∙ sym (drop-map f q.end (line c));
        long = length-map (new_line q c) f ∙ length-new_line q c a ∙ sym (length-map (line c) f);
      }

  pub outside-codes : Outside q c.codes (reordered q c).codes
  outside-codes = rw (codes-marks c.codes c.classes a.even) at (outside_column (λ m. m.code))

  pub outside-classes : Outside q c.classes (reordered q c).classes
  outside-classes = rw (classes-marks c.codes c.classes a.even) at (outside_column (λ m. m.class))
