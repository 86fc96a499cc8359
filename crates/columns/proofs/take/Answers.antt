-- `columns::take` meets its contract: what is gathered where the column lies is what is taken.
-- Assumes nothing.
use Rattle.columns.proofs.FormLaws.{found}
use Rattle.columns.proofs.take.Goals as goal

pub gather-requires : goal.gather-requires
gather-requires g c =
    let f = found _ _ _ _ _ (rw c.WIDTH.ensures at c.find-column.ensures) in
    record { inside = f.inside; few = f.few }

pub returns : goal.returns
returns g c =
    let f = found _ _ _ _ _ (rw c.WIDTH.ensures at c.find-column.ensures) in
    rw c.gather.ensures f.is
