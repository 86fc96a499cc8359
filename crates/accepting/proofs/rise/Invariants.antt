use mathlib.Core.Path.{◌≡◌}
use Prim.Native.Nat.{◌+◌, ◌-◌, ◌*◌, ◌≤◌}
use lib.ListN.{length}
use Rattle.words.specs.Words.{words_at}
use Rattle.scanning.specs.Scans.{rise}
use Rattle.accepting.proofs.TookLaws.{Leads}
use Rattle.accepting.proofs.rise.Given as goal

abbrev pub invariant-loop-i : goal.invariant-loop-i
invariant-loop-i l = (l.at + 2 * l.i ≤ length l.bytes) × (l.high + l.apart * (l.n - l.i) ≡ 65535) × Leads (rise l.apart l.n 0) (words_at l.bytes l.at l.n) (l.at + 2 * l.n) l.bytes l.at (rise l.apart (l.n - l.i) l.low) (words_at l.bytes (l.at + 2 * l.i) (l.n - l.i)) (l.at + 2 * l.i)
