-- `printing::put_all` meets its contract: what all bytes make of the memory handed over, those that are left make of the present one.
-- Assumes nothing.
use mathlib.Core.Path.{sym, ap, ◌∙◌}
use borrow.Author.Rules.{rules}
use lib.ListN.{drop_of_length-le}
use Rattle.printing.specs.Writing.{Wrote, writes}
use Rattle.printing.proofs.WriteLaws.{writes-next}
use Rattle.printing.proofs.put_all.Goals as goal

pub loop-b-preserved : goal.loop-b-preserved
loop-b-preserved c =
    let l = c.loop-b in
    (search rules, l.invariant.1 ∙ writes-next (Wrote l.out l.k) _ c.args.bytes.now l.b-index c.loop-b-test.true c.put-k.ensures)

pub returns : goal.returns
returns c =
    let l = c.loop-b in
    sym (l.invariant.1 ∙ ap (writes (Wrote l.out l.k)) (drop_of_length-le _ c.loop-b-test.false))
