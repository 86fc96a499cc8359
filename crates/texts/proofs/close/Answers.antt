-- `texts::close` meets its contract.
-- Assumes nothing.
use Rattle.std.specs.Prelude.{ℕ, Option}
use mathlib.Core.Path.{ap, ◌∙◌}
use native.Mathlib.Omega.{arith}
use Rattle.texts.specs.Form.{Close}
use Rattle.texts.proofs.TextLaws.{Short, reached-whole}
use Rattle.texts.specs.Steps.{closed_by}
use Rattle.texts.proofs.close.Goals as goal

pub returns : goal.returns
returns c =
    let f = c.finish in
    let a = c.args in
    let good = c.well_formed in
    let short : Short a.codes.now a.widths.now a.types.now a.categories.now = record { codes = omega (arith, good.1.0); widths = omega (arith, good.1.1.0); types = omega (arith, good.1.1.1.0); categories = omega (arith, good.1.1.1.1.0) } in
    let e =
    ap (λ (t : Option ℕ). Close t f.new.codes f.new.widths f.new.types f.new.categories) c.verdict.ensures
    ∙ ap closed_by f.ensures in
    record { state = e; text = λ text codes w t g h. e ∙ reached-whole a.s a.codes.now a.widths.now a.types.now a.categories.now short text codes w t g h }
