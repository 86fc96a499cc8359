-- `printing::name` meets its contract: past the last action there is no name.
-- Assumes nothing.
use mathlib.Core.Path.{sym}
use mathlib.Core.List.{[]}
use native.Mathlib.Omega.{arith}
use lib.ListN.{get_or-eq_default}
use Rattle.printing.specs.Printed.{names}
use Rattle.printing.proofs.name.Goals as goal

pub returns-in_default : goal.returns-in_default
unfolding names
returns-in_default c = sym (get_or-eq_default names [] (omega arith))
