use mathlib.Core.Path.{◌≡◌}
use lib.ListN.{length, drop}
use Rattle.printing.specs.Writing.{Wrote, writes}
use Rattle.printing.proofs.put_all.Given as goal

abbrev pub invariant-loop-b : goal.invariant-loop-b
invariant-loop-b l =
    (length l.out ≡ length l.initial.out)
    × (writes (Wrote l.initial.out l.at) l.bytes ≡ writes (Wrote l.out l.k) (drop l.b-index l.bytes))
