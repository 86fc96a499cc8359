use Prim.Native.Nat.{◌+◌}
use lib.ListN.{length}
use lib.Seq.{slice}
use Rattle.runs.specs.Records.{columns, columns_read}
use Rattle.runs.specs.Stretched.{work, run_pieces, placed}
use Rattle.laying.specs.Laid.{laid}
use Rattle.placing.proofs.RunLaws.{Running}
use Rattle.placing.proofs.place_run.Given as goal

abbrev pub invariant-loop-i : goal.invariant-loop-i
invariant-loop-i l = Running l.rtl l.m l.past l.copies l.overlap (columns_read l.line) (columns l.initial.to_glyphs l.initial.to_widths l.initial.to_categories l.initial.to_ignorables l.initial.to_actions l.initial.to_advances l.initial.to_offsets)
    (laid l.rtl l.m l.at (placed l.rtl l.initial.x (run_pieces l.copies l.overlap (slice l.k l.past (work l.rtl (columns_read l.line))))) (columns l.initial.to_glyphs l.initial.to_widths l.initial.to_categories l.initial.to_ignorables l.initial.to_actions l.initial.to_advances l.initial.to_offsets)) (l.at + length (run_pieces l.copies l.overlap (slice l.k l.past (work l.rtl (columns_read l.line)))))
    l.i l.next l.x (columns l.to_glyphs l.to_widths l.to_categories l.to_ignorables l.to_actions l.to_advances l.to_offsets)
