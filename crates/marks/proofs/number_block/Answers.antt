-- `marks::number_block` meets its contract: the marks of the block get their number one by one, up to the first that does not belong to it.
-- Assumes nothing.
use mathlib.Core.Path.{◌≡◌, sym, ◌∙◌}
use native.Mathlib.Omega.{arith}
use lib.ListN.{length}
use Rattle.marks.proofs.NumberLaws.{numbering_begins, numbering_on, numbering_fails, numbering_ends}
use Rattle.marks.proofs.number_block.Goals as goal

pub loop-j-init : goal.loop-j-init
loop-j-init c = numbering_begins _ _ _ _ _

pub returns-then-not-moved : goal.returns-then-not-moved
returns-then-not-moved c =
    let e = numbering_fails c.requires.codes_len c.loop-j.invariant c.loop-j-test.true (sym c.moved.ensures ∙ c.if-not-moved.true) in record { ends = e.0; renumbered = e.1 }

pub loop-j-preserved : goal.loop-j-preserved
loop-j-preserved c =
    numbering_on c.requires.codes_len c.loop-j.invariant c.loop-j-test.true (sym c.moved.ensures ∙ c.if-not-moved.false)

pub returns : goal.returns
returns c =
    let e = numbering_ends c.requires.codes_len c.loop-j.invariant c.loop-j-test.false in
    let all : length c.args.codes.now ≡ c.loop-j.j = omega (arith, c.loop-j-test.false, c.loop-j.auto.j-end, c.requires.i_in_bounds) in
    record { ends = all ∙ e.0; renumbered = e.1 }
