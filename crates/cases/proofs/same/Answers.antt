-- `cases::same` meets its contract: the first elements have the bits of those of `got`, the others lie from `k` on.
-- Assumes nothing.
use mathlib.Core.Path.{sym, ap, ◌∙◌}
use lib.ListN.{length-map}
use Rattle.std.proofs.lemmas.List.{get_or-map}
use Rattle.columns.proofs.FormLaws.{found, passed_none, passed_equal, length-elements}
use Rattle.cases.proofs.ComparingLaws.{same_count, passed-same, passed-off, found-compared}
use Rattle.cases.proofs.same.Goals as goal

pub returns-then-s-got : goal.returns-then-s-got
returns-then-s-got g c =
    found-compared _ (found _ _ _ _ _ (rw c.WIDTH.ensures at c.find-s.ensures))
    (same_count _ _ (rw (length-elements, length-map) c.if-s-got.true))

pub loop-x-init : goal.loop-x-init
loop-x-init g c = passed_none (rw c.if-s-got.false at (found _ _ _ _ _ (rw c.WIDTH.ensures at c.find-s.ensures)).inside)

pub returns-then-bits : goal.returns-then-bits
returns-then-bits g c =
    let t = g.T.Element in
    let got = c.args.got.now in
    let i = c.loop-x.x-index in
    found-compared _ (found _ _ _ _ _ (rw c.WIDTH.ensures at c.find-s.ensures))
    (rw c.if-s-got.false
    (passed-off c.loop-x-test.true (rw length-map c.loop-x-test.true) c.read.ensures
    (λ q. c.if-bits.true
    (c.bits.ensures ∙ q ∙ get_or-map t.bits got i c.x-item.result 0 c.loop-x-test.true ∙ ap t.bits (sym c.x-item.is) ∙ sym c.bits-in-loop-x.ensures))
    c.loop-x.invariant))

pub loop-x-preserved : goal.loop-x-preserved
loop-x-preserved g c =
    let t = g.T.Element in
    let got = c.args.got.now in
    let i = c.loop-x.x-index in
    rw (c.from-k.ensures, c.WIDTH-in-loop-x.ensures)
    (passed_equal c.loop-x-test.true (rw length-map c.loop-x-test.true) c.read.ensures
    (sym c.bits.ensures ∙ c.if-bits.false ∙ c.bits-in-loop-x.ensures ∙ ap t.bits c.x-item.is ∙ sym (get_or-map t.bits got i c.x-item.result 0 c.loop-x-test.true))
    c.loop-x.invariant)

pub returns : goal.returns
returns g c =
    found-compared _ (found _ _ _ _ _ (rw c.WIDTH.ensures at c.find-s.ensures))
    (rw c.if-s-got.false (passed-same (sym (length-map _ _)) c.loop-x-test.false c.loop-x.invariant))
