-- Rows as they are lent: `rows_lent`.
-- Assumes nothing.
use Rattle.std.specs.Prelude.{List}
use Rattle.layouts.specs.Tables.{Rule}
use Rattle.synthesis.specs.Rules.{rows}
use Rattle.synthesis.specs.declared.Rows.{Rows}

abbrev pub rows_lent : Rows → List Rule
rows_lent r = rows r.count r.n r.each r.k r.components.now r.ligatures.now
