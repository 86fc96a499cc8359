-- `columns::U32Element::read` meets its contract: four bytes, one behind the other.
-- Assumes nothing.
use native.Mathlib.Omega.{arith}
use Rattle.columns.specs.Form.{number_at}
use Rattle.columns.proofs.U32Element.read.Goals as goal

pub returns : goal.returns
unfolding number_at
returns c = omega (arith, c.from_be_bytes.ensures, c.byte.ensures, c.byte-2.ensures, c.byte-3.ensures, c.byte-4.ensures)
