use Prim.Native.Nat.{◌≤◌}
use Rattle.runs.proofs.TurnLaws.{SumsFrom}
use Rattle.runs.proofs.sums_at.Given as goal

abbrev pub invariant-loop-k : goal.invariant-loop-k
invariant-loop-k l = (l.tiles ≤ l.k) × SumsFrom l.rtl l.from l.line.widths.now l.line.actions.now l.k l.fixed l.repeating l.tiles
