-- `printing::refused` meets its contract, part by part.
-- Assumes nothing.
use Rattle.printing.proofs.WriteLaws.{refused_filled}
use Rattle.printing.proofs.refused.Goals as goal

pub returns : goal.returns
returns c =
    let a = c.args in
    let n = c.from-n.ensures in
    refused_filled a.out.now a.number c.places.result _ _ _ c.refused_word-a.ensures (rw n at c.places.ensures)
    (rw n at c.numeral-b.ensures)
    c.put.ensures
