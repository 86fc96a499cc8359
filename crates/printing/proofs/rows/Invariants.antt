use mathlib.Core.Path.{◌≡◌}
use lib.ListN.{length}
use Rattle.printing.specs.Writing.{Wrote, writes}
use Rattle.printing.proofs.WriteLaws.{rows_left}
use Rattle.printing.proofs.rows.Given as goal

abbrev pub invariant-loop-i : goal.invariant-loop-i
invariant-loop-i l =
    (length l.out ≡ length l.initial.out)
    × (writes (Wrote l.initial.out l.at) (rows_left l.codes l.widths l.actions 0) ≡ writes (Wrote l.out l.k) (rows_left l.codes l.widths l.actions l.i))
