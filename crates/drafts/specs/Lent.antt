-- Columns as they are lent: `lookup_in` the lookup that they are; `entry_in` its entry, under a mask.
-- Assumes nothing.
use Rattle.std.specs.Prelude.{ℕ}
use Rattle.layouts.specs.Lookups.{Lookup, lookup_of}
use Rattle.drafts.specs.declared.Columns.{Columns}
use Rattle.drafts.specs.Entries.{Entry}

abbrev pub lookup_in : Columns → Lookup
lookup_in c = lookup_of c.flags c.kind c.glyphs.now c.substitutes.now

abbrev pub entry_in : ℕ → Columns → Entry
entry_in mask c = record { mask = mask; lookup = lookup_in c }
