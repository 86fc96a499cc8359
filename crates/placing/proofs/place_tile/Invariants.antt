use Rattle.runs.specs.Records.{columns}
use Rattle.runs.specs.Stretched.{pieces, placed}
use Rattle.laying.specs.Laid.{laid}
use Rattle.placing.specs.Placed.{after}
use Rattle.placing.proofs.PlaceLaws.{Laying}
use Rattle.placing.proofs.place_tile.Given as goal

abbrev pub invariant-loop-j : goal.invariant-loop-j
invariant-loop-j l = Laying l.rtl l.m l.end l.tile l.overlap (columns l.initial.to_glyphs l.initial.to_widths l.initial.to_categories l.initial.to_ignorables l.initial.to_actions l.initial.to_advances l.initial.to_offsets)
    (laid l.rtl l.m l.at (placed l.rtl l.start (pieces l.times l.overlap l.tile)) (columns l.initial.to_glyphs l.initial.to_widths l.initial.to_categories l.initial.to_ignorables l.initial.to_actions l.initial.to_advances l.initial.to_offsets)) (after l.rtl l.start (pieces l.times l.overlap l.tile))
    l.j l.x l.lap (columns l.to_glyphs l.to_widths l.to_categories l.to_ignorables l.to_actions l.to_advances l.to_offsets)
