use Prim.Native.Nat.{◌+◌, ◌-◌, ◌*◌, ◌≤◌}
use lib.ListN.{length}
use Rattle.words.specs.Words.{words_at}
use Rattle.scanning.specs.Grammar.{later}
use Rattle.accepting.proofs.TookLaws.{Leads}
use Rattle.grouping.proofs.Ligatures.later.Given as goal

abbrev pub invariant-loop-i : goal.invariant-loop-i
invariant-loop-i l = (l.at + 2 * l.i ≤ length l.self.bytes.now) × Leads (later l.self.n l.count l.start) (words_at l.self.bytes.now l.at l.count) (l.at + 2 * l.count) l.self.bytes.now l.at (later l.self.n (l.count - l.i) l.o) (words_at l.self.bytes.now (l.at + 2 * l.i) (l.count - l.i)) (l.at + 2 * l.i)
