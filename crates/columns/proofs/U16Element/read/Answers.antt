-- `columns::U16Element::read` meets its contract: two bytes, one behind the other.
-- Assumes nothing.
use native.Mathlib.Omega.{arith}
use Rattle.columns.specs.Form.{number_at}
use Rattle.columns.proofs.U16Element.read.Goals as goal

pub returns : goal.returns
unfolding number_at
returns c = omega (arith, c.from_be_bytes.ensures, c.byte.ensures, c.byte-2.ensures)
