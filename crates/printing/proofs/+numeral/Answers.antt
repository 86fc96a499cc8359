-- The digits in front are written, and the last one behind them.
use mathlib.Core.Path.{◌∙◌}
use Rattle.printing.specs.Writing.{Wrote}
use Rattle.printing.proofs.WriteLaws.{numeral-last}
use Rattle.printing.proofs.+numeral.Goals as goal

pub returns : goal.returns
returns t c =
    let a = c.args in
    c.put.ensures ∙ numeral-last a.base a.n a.w (Wrote a.out.now a.at) _ _ c.if-w-eq0.false c.numeral-k.ensures c.glyph.ensures
