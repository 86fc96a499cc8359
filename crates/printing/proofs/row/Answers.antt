-- `printing::row` meets its contract, part by part.
-- Assumes nothing.
use Rattle.printing.specs.Writing.{Wrote}
use Rattle.printing.proofs.WriteLaws.{row_written}
use Rattle.printing.proofs.row.Goals as goal

pub returns : goal.returns
returns c =
    let a = c.args in
    row_written (Wrote a.out.now a.at) a.place a.code a.width a.action c.places.result _ _ _ _ _ _ c.places.ensures
    c.numeral-a.ensures
    c.put-b.ensures
    c.numeral-c.ensures
    c.put-d.ensures
    (rw c.name.ensures at c.put_all-e.ensures)
    c.put.ensures
