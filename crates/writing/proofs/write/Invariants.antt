use mathlib.Core.Bool.{false}
use Prim.Native.Nat.{◌-◌}
use Rattle.runs.specs.Records.{columns, columns_read}
use Rattle.runs.specs.Stretched.{work, worked}
use Rattle.laying.specs.Laid.{laid}
use Rattle.writing.proofs.WriteLaws.{Writing}
use Rattle.writing.proofs.write.Given as goal

abbrev pub invariant-loop-k : goal.invariant-loop-k
invariant-loop-k l = Writing l.rtl l.m (columns_read l.line) (columns l.initial.to_glyphs l.initial.to_widths l.initial.to_categories l.initial.to_ignorables l.initial.to_actions l.initial.to_advances l.initial.to_offsets)
    (laid l.rtl l.m 0 (worked l.rtl false (work l.rtl (columns_read l.line))) (columns l.initial.to_glyphs l.initial.to_widths l.initial.to_categories l.initial.to_ignorables l.initial.to_actions l.initial.to_advances l.initial.to_offsets))
    l.k l.at (columns l.to_glyphs l.to_widths l.to_categories l.to_ignorables l.to_actions l.to_advances l.to_offsets)

abbrev pub decreases-loop-k : goal.decreases-loop-k
decreases-loop-k l = l.n - l.k
