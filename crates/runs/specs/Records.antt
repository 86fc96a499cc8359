-- A line that is stretched: `Record` the numbers of a record; `kept`, `put` those that a copy keeps; `Columns`, `columns` the same of all records, column by column; `columns_read` these from a line that is only read; `columns_now`, `columns_lent` from the parameters of a call; `columns_mut_now`, `columns_mut_lent` the same of parameters that the call may write (`&mut`); `record_at`, `listed`, `line_of` the records of a line's columns; `columns_of` the columns of records.
-- Assumes nothing.
use Rattle.std.specs.Prelude.{List, [], ◌∷◌, map, ℕ, zero, suc, length, get_or, ℤ, pos}
use denote.Triple.Both.{Both}
use Rattle.laws.specs.Lent.{Slice, Borrowed, SliceMut, BorrowedMut}
use Rattle.runs.specs.declared.Line.{Line}
use Rattle.runs.specs.declared.Tile.{Tile}

-- "The line's columns are glyph, width, category, ignorable, action, advance, offset"
pub record Record : Type 0 where
  pub glyph : ℕ
  pub width : ℤ
  pub category : ℕ
  pub ignorable : ℕ
  pub action : ℕ
  pub advance : ℤ
  pub offset : ℤ

-- "a copy keeps the first five"; and a record of five with an advance and an offset
abbrev pub kept : Record → Tile
kept r = record { glyph = record { 0 = r.glyph }; width = r.width; category = r.category; ignorable = r.ignorable; action = r.action }

abbrev pub put : Tile → ℤ → ℤ → Record
put t advance offset = record {
  glyph = t.glyph.0;
  width = t.width;
  category = t.category;
  ignorable = t.ignorable;
  action = t.action;
  advance = advance;
  offset = offset;
}

-- the same, column by column
pub record Columns : Type 0 where
  pub glyphs : List ℕ
  pub widths : List ℤ
  pub categories : List ℕ
  pub ignorables : List ℕ
  pub actions : List ℕ
  pub advances : List ℤ
  pub offsets : List ℤ

abbrev pub columns : List ℕ → List ℤ → List ℕ → List ℕ → List ℕ → List ℤ → List ℤ → Columns
columns glyphs widths categories ignorables actions advances offsets = record {
  glyphs = glyphs;
  widths = widths;
  categories = categories;
  ignorables = ignorables;
  actions = actions;
  advances = advances;
  offsets = offsets;
}

-- the same from a line that is only read
abbrev pub columns_read : Line → Columns
columns_read line =
    columns line.glyphs.now line.widths.now line.categories.now line.ignorables.now line.actions.now line.advances.now line.offsets.now

-- the same from the parameters of a call: as a `requires` has them; and in an `ensures`, as they were lent and as they come back
abbrev pub columns_now : Slice ℕ → Slice ℤ → Slice ℕ → Slice ℕ → Slice ℕ → Slice ℤ → Slice ℤ → Columns
columns_now glyphs widths categories ignorables actions advances offsets =
    columns glyphs.now widths.now categories.now ignorables.now actions.now advances.now offsets.now

abbrev pub columns_lent : Borrowed ℕ → Borrowed ℤ → Borrowed ℕ → Borrowed ℕ → Borrowed ℕ → Borrowed ℤ → Borrowed ℤ → Both Columns Columns
columns_lent glyphs widths categories ignorables actions advances offsets = record {
  entry = columns_now glyphs.entry widths.entry categories.entry ignorables.entry actions.entry advances.entry offsets.entry;
  exit = columns_now glyphs.exit widths.exit categories.exit ignorables.exit actions.exit advances.exit offsets.exit;
}

-- the same, from the parameters of a call that may write them
abbrev pub columns_mut_now : SliceMut ℕ → SliceMut ℤ → SliceMut ℕ → SliceMut ℕ → SliceMut ℕ → SliceMut ℤ → SliceMut ℤ → Columns
columns_mut_now glyphs widths categories ignorables actions advances offsets =
    columns glyphs.now widths.now categories.now ignorables.now actions.now advances.now offsets.now

abbrev pub columns_mut_lent :
    BorrowedMut ℕ → BorrowedMut ℤ → BorrowedMut ℕ → BorrowedMut ℕ → BorrowedMut ℕ → BorrowedMut ℤ → BorrowedMut ℤ → Both Columns Columns
columns_mut_lent glyphs widths categories ignorables actions advances offsets = record {
  entry = columns_mut_now glyphs.entry widths.entry categories.entry ignorables.entry actions.entry advances.entry offsets.entry;
  exit = columns_mut_now glyphs.exit widths.exit categories.exit ignorables.exit actions.exit advances.exit offsets.exit;
}

-- the record at a place: the number there of each column, 0 where a column is too short
abbrev pub record_at : Columns → ℕ → Record
record_at c i = record {
  glyph = get_or c.glyphs i 0;
  width = get_or c.widths i (pos 0);
  category = get_or c.categories i 0;
  ignorable = get_or c.ignorables i 0;
  action = get_or c.actions i 0;
  advance = get_or c.advances i (pos 0);
  offset = get_or c.offsets i (pos 0);
}

-- f 0, f 1 and so on, n of them
unfoldable pub listed : {A : Type 0} → (ℕ → A) → ℕ → List A
listed f zero = []
listed f (suc n) = f 0 ∷ listed (λ (k : ℕ). f (suc k)) n

-- the records of a line, as many as it has actions
unfoldable pub line_of : Columns → List Record
line_of c = listed (record_at c) (length c.actions)

-- the columns of records
abbrev pub columns_of : List Record → Columns
columns_of l =
    columns
    (map (λ (r : Record). r.glyph) l)
    (map (λ (r : Record). r.width) l)
    (map (λ (r : Record). r.category) l)
    (map (λ (r : Record). r.ignorable) l)
    (map (λ (r : Record). r.action) l)
    (map (λ (r : Record). r.advance) l)
    (map (λ (r : Record). r.offset) l)
