-- `columns::view_u8` meets its contract: the bytes of a body are its elements of width 1.
-- Assumes nothing.
use native.Mathlib.Omega.{arith}
use Rattle.columns.proofs.FormLaws.{found, bytes_are}
use Rattle.columns.proofs.view_u8.Goals as goal

pub overflow_add-to : goal.overflow_add-to
overflow_add-to c = omega (arith, (found _ _ _ _ _ c.find-s.ensures).inside)

pub slice_bounds-result-end : goal.slice_bounds-result-end
slice_bounds-result-end c = omega (arith, (found _ _ _ _ _ c.find-s.ensures).inside)

pub returns : goal.returns
returns c =
    let f = c.find-s in
    let g = found _ _ _ _ _ f.ensures in
    rw (bytes_are c.args.body.now f.result.from f.result.count (omega (arith, g.inside))) g.is
