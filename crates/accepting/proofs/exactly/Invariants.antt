use mathlib.Core.Path.{◌≡◌}
use Prim.Native.Nat.{◌+◌, ◌*◌, ◌≤◌}
use lib.ListN.{length, drop}
use Rattle.accepting.specs.Scanned.{these}
use Rattle.accepting.proofs.TookLaws.{Leads}
use Rattle.accepting.proofs.exactly.Given as goal

abbrev pub invariant-loop-w : goal.invariant-loop-w
invariant-loop-w l = (l.p ≤ length l.bytes) × (l.p ≡ l.at + 2 * l.w-index) × Leads (these l.words) tt (l.at + 2 * length l.words) l.bytes l.at (these (drop l.w-index l.words)) tt l.p
