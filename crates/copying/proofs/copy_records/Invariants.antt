use Rattle.runs.specs.Records.{columns, columns_read}
use Rattle.copying.proofs.CopyLaws.{CopyingAll}
use Rattle.copying.proofs.copy_records.Given as goal

abbrev pub invariant-loop-j : goal.invariant-loop-j
invariant-loop-j l = CopyingAll l.i l.s (columns_read l.line) l.o (columns l.initial.to_glyphs l.initial.to_widths l.initial.to_categories l.initial.to_ignorables l.initial.to_actions l.initial.to_advances l.initial.to_offsets) l.j (columns l.to_glyphs l.to_widths l.to_categories l.to_ignorables l.to_actions l.to_advances l.to_offsets)
