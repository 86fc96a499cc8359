use Prim.Native.Nat.{◌+◌, ◌-◌, ◌*◌, ◌≤◌}
use lib.ListN.{length}
use Rattle.refusals.specs.Columns.{line_limit}
use Rattle.runs.specs.Records.{Columns}
use Rattle.runs.specs.Stretched.{work}
use Rattle.runs.specs.Measured.{Lent}
use Rattle.runs.proofs.CountLaws.{Counting}
use Rattle.runs.proofs.stretched_length.Given as goal

abbrev pub invariant-loop-k : goal.invariant-loop-k
invariant-loop-k l = (l.k ≤ length l.line.actions.now) × (l.total ≤ line_limit + 2147483648 * l.k)
    × ((c : Columns) → Lent c l.line.widths.now l.line.categories.now l.line.ignorables.now l.line.actions.now l.line.advances.now → Counting (work l.rtl c) l.k l.total)

abbrev pub decreases-loop-k : goal.decreases-loop-k
decreases-loop-k l = length l.line.actions.now - l.k
