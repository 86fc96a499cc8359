-- `printing::rows` meets its contract: what all rows make of the memory handed over, those that are left make of the present one.
-- Assumes nothing.
use mathlib.Core.Path.{sym, ap, ◌∙◌}
use native.Mathlib.Omega.{arith}
use borrow.Author.Rules.{rules}
use Rattle.printing.specs.Writing.{Wrote, writes}
use Rattle.printing.proofs.WriteLaws.{rows_end, rows_next}
use Rattle.printing.proofs.rows.Goals as goal

pub loop-i-preserved : goal.loop-i-preserved
loop-i-preserved c =
    let l = c.loop-i in
    let a = c.args in (
      search rules,
      l.invariant.1 ∙ rows_next a.codes.now a.widths.now a.actions.now l.i (Wrote l.out l.k) _ (omega arith) (omega arith) (omega arith) c.row-k.ensures,
    )

pub returns : goal.returns
returns c =
    let l = c.loop-i in
    let a = c.args in
    sym (l.invariant.1 ∙ ap (writes (Wrote l.out l.k)) (rows_end a.codes.now a.widths.now a.actions.now l.i (omega arith)))
