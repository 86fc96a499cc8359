use mathlib.Core.Path.{◌≡◌}
use Prim.Native.Nat.{ℕ, ◌+◌, ◌-◌, ◌*◌, ◌≤◌}
use lib.ListN.{length}
use Rattle.scanning.specs.Grammar.{ruled}
use Rattle.accepting.proofs.TookLaws.{Leads}
use Rattle.grouping.specs.Grouped.{rules_at}
use Rattle.grouping.proofs.Ligatures.rules.Given as goal

abbrev pub invariant-loop-i : goal.invariant-loop-i
invariant-loop-i l = (l.p ≤ length l.self.bytes.now) × (l.p ≡ l.at + l.i * (2 + 2 * l.self.n)) × ((lead : ℕ) → Leads (ruled l.self.n lead l.c) (rules_at l.self.n lead l.c l.self.bytes.now l.at) (l.at + l.c * (2 + 2 * l.self.n)) l.self.bytes.now l.at (ruled l.self.n lead (l.c - l.i)) (rules_at l.self.n lead (l.c - l.i) l.self.bytes.now l.p) l.p)
