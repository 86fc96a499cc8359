use mathlib.Core.Path.{◌≡◌}
use Prim.Native.Nat.{◌+◌, ◌*◌}
use lib.ListN.{get_or}
use Rattle.ligatures.proofs.PlaceLaws.{run_from}
use Rattle.ligatures.proofs.Rules.set_end.Given as goal

abbrev pub invariant-loop-e : goal.invariant-loop-e
invariant-loop-e l = (l.e + run_from l.self.n l.self.components.now l.self.ligatures.now (get_or l.self.components.now (l.i * l.self.n) 0) l.e ≡ l.i + 1 + run_from l.self.n l.self.components.now l.self.ligatures.now (get_or l.self.components.now (l.i * l.self.n) 0) (l.i + 1))
