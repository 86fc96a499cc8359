use mathlib.Core.Path.{◌≡◌}
use Prim.Native.Nat.{◌+◌, ◌-◌, ◌*◌, ◌≤◌}
use lib.ListN.{length}
use Rattle.layouts.specs.Tables.{evenly}
use Rattle.accepting.specs.Scanned.{these}
use Rattle.accepting.proofs.TookLaws.{Leads}
use Rattle.grouping.proofs.evenly.Given as goal

abbrev pub invariant-loop-i : goal.invariant-loop-i
invariant-loop-i l = (l.at + 2 * l.i ≤ length l.bytes) × (l.o + (l.c - l.i) * l.by ≡ l.first + l.c * l.by) × Leads (these (evenly l.c l.first l.by)) tt (l.at + 2 * l.c) l.bytes l.at (these (evenly (l.c - l.i) l.o l.by)) tt (l.at + 2 * l.i)
