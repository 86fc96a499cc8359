-- `printing::unreadable` meets its contract.
-- Assumes nothing.
use mathlib.Core.Path.{◌∙◌}
use Rattle.printing.specs.Printed.{unreadable_text}
use Rattle.printing.proofs.WriteLaws.{writes-filled}
use Rattle.printing.proofs.unreadable.Goals as goal

pub returns : goal.returns
returns c =
    c.put_all.ensures ∙ writes-filled c.args.out.now unreadable_text
