-- Records copied one by one, in all columns: `CopyingAll` what the loop carries (`copying_all_starts`, `copying_all_next`, `copying_all_ends`).
-- Assumes nothing.
use mathlib.Core.Path.{◌≡◌, refl}
use Prim.Native.Nat.{ℕ, ◌+◌, ◌≤◌, ◌<◌}
use lib.ListN.{length, set}
use lib.IntN.{pos}
use Rattle.runs.specs.Records.{Columns, columns, record_at}
use Rattle.copying.specs.Pasted.{pasted_all, EvenLine, Roomy}
use Rattle.laws.proofs.PasteLaws.{Copying, copying_starts, copying_next, copying_ends}
use Rattle.copying.proofs.ColumnsLaws.{columns-same}

-- of s records from i on, to o on, j are copied
pub record CopyingAll (i s : ℕ) (c : Columns) (o : ℕ) (start : Columns) (j : ℕ) (b : Columns) : Type 0 where
  pub of_glyphs : Copying c.glyphs start.glyphs i s o j b.glyphs
  pub of_widths : Copying c.widths start.widths i s o j b.widths
  pub of_categories : Copying c.categories start.categories i s o j b.categories
  pub of_ignorables : Copying c.ignorables start.ignorables i s o j b.ignorables
  pub of_actions : Copying c.actions start.actions i s o j b.actions
  pub of_advances : Copying c.advances start.advances i s o j b.advances
  pub of_offsets : Copying c.offsets start.offsets i s o j b.offsets

module _ (i s : ℕ) (c : Columns) (o : ℕ) (start : Columns) where
  pub copying_all_starts : CopyingAll i s c o start 0 start
  copying_all_starts = record {
    of_glyphs = copying_starts _ _ i s o;
    of_widths = copying_starts _ _ i s o;
    of_categories = copying_starts _ _ i s o;
    of_ignorables = copying_starts _ _ i s o;
    of_actions = copying_starts _ _ i s o;
    of_advances = copying_starts _ _ i s o;
    of_offsets = copying_starts _ _ i s o;
  }

  module _ (j : ℕ) (b : Columns) (k : CopyingAll i s c o start j b) (f : i + s ≤ length c.actions) (e : EvenLine c) (r : Roomy (o + s) start) where
    pub copying_all_next :
        j < s
        → CopyingAll i s c o start (j + 1)
        (columns (set b.glyphs (o + j) (record_at c (i + j)).glyph) (set b.widths (o + j) (record_at c (i + j)).width) (set b.categories (o + j) (record_at c (i + j)).category) (set b.ignorables (o + j) (record_at c (i + j)).ignorable) (set b.actions (o + j) (record_at c (i + j)).action) (set b.advances (o + j) (record_at c (i + j)).advance) (set b.offsets (o + j) (record_at c (i + j)).offset))
    copying_all_next h = record {
      of_glyphs = copying_next _ _ i s o _ j k.of_glyphs (rw e.even_glyphs f) r.for_glyphs _ 0 h refl;
      of_widths = copying_next _ _ i s o _ j k.of_widths (rw e.even_widths f) r.for_widths _ (pos 0) h refl;
      of_categories = copying_next _ _ i s o _ j k.of_categories (rw e.even_categories f) r.for_categories _ 0 h refl;
      of_ignorables = copying_next _ _ i s o _ j k.of_ignorables (rw e.even_ignorables f) r.for_ignorables _ 0 h refl;
      of_actions = copying_next _ _ i s o _ j k.of_actions f r.for_actions _ 0 h refl;
      of_advances = copying_next _ _ i s o _ j k.of_advances (rw e.even_advances f) r.for_advances _ (pos 0) h refl;
      of_offsets = copying_next _ _ i s o _ j k.of_offsets (rw e.even_offsets f) r.for_offsets _ (pos 0) h refl;
    }

    pub copying_all_ends : s ≤ j → b ≡ pasted_all i s c o start
    unfolding pasted_all
    copying_all_ends h =
        columns-same
        (copying_ends _ _ i s o _ j k.of_glyphs (rw e.even_glyphs f) r.for_glyphs h)
        (copying_ends _ _ i s o _ j k.of_widths (rw e.even_widths f) r.for_widths h)
        (copying_ends _ _ i s o _ j k.of_categories (rw e.even_categories f) r.for_categories h)
        (copying_ends _ _ i s o _ j k.of_ignorables (rw e.even_ignorables f) r.for_ignorables h)
        (copying_ends _ _ i s o _ j k.of_actions f r.for_actions h)
        (copying_ends _ _ i s o _ j k.of_advances (rw e.even_advances f) r.for_advances h)
        (copying_ends _ _ i s o _ j k.of_offsets (rw e.even_offsets f) r.for_offsets h)
