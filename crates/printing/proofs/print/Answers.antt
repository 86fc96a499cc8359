-- `printing::print` meets its contract: the heading, then the rows.
-- Assumes nothing.
use Rattle.printing.proofs.WriteLaws.{print_filled}
use Rattle.printing.proofs.print.Goals as goal

pub returns : goal.returns
returns c =
    let a = c.args in
    print_filled a.out.now a.codes.now a.widths.now a.actions.now _ _ c.heading-at.ensures c.rows.ensures
