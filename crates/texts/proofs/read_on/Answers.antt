-- `texts::read_on` meets its contract: what the whole piece makes of the state that was handed over, the bytes that are left make of the present one.
-- Assumes nothing.
use mathlib.Core.Path.{sym, ap, ◌∙◌}
use borrow.Author.Rules.{rules}
use lib.ListN.{drop_of_length-le}
use Rattle.texts.specs.Steps.{Hold, read_on}
use Rattle.texts.proofs.ReadLaws.{read_next}
use Rattle.texts.proofs.read_on.Goals as goal

pub loop-b-preserved : goal.loop-b-preserved
loop-b-preserved c =
    let l = c.loop-b in (
      search rules,
      search rules,
      search rules,
      search rules,
      l.invariant.4 ∙ read_next c.args.piece.now l.b-index _ _ c.loop-b-test.true c.step-at.ensures,
    )

pub returns : goal.returns
returns c =
    let l = c.loop-b in
    sym (l.invariant.4 ∙ ap (read_on (Hold l.at l.codes l.widths l.types l.categories)) (drop_of_length-le _ c.loop-b-test.false))
