-- `columns::U8Element::read` meets its contract: one byte is its number.
-- Assumes nothing.
use native.Mathlib.Omega.{arith}
use Rattle.columns.specs.Form.{number_at}
use Rattle.columns.proofs.U8Element.read.Goals as goal

pub returns : goal.returns
unfolding number_at
returns c = omega (arith, c.byte.ensures)
