-- `copying::copy_columns` meets its contract: each column has its part copied.
-- Assumes nothing.
use Rattle.copying.specs.Pasted.{pasted_all}
use Rattle.copying.proofs.ColumnsLaws.{columns-same}
use Rattle.copying.proofs.copy_columns.Goals as goal

pub returns : goal.returns
unfolding pasted_all
returns c =
    columns-same c.copy.ensures c.copy-2.ensures c.copy-3.ensures c.copy-4.ensures c.copy-5.ensures c.copy-6.ensures c.copy-7.ensures
