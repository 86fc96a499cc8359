-- `columns::gather` meets its contract: the first `i` elements stand in `out`, the others lie from `k` on.
-- Assumes nothing.
use mathlib.Core.Path.{refl, sym, ap, ◌∙◌}
use native.Mathlib.Omega.{arith}
use lib.ListN.{length, length-set, length-map}
use Rattle.std.proofs.lemmas.List.{map-set, take-map}
use Rattle.columns.proofs.FormLaws.{passed_none, passed-stored, passed-all, passed_length}
use Rattle.columns.proofs.gather.Goals as goal

pub loop-i-init : goal.loop-i-init
loop-i-init g c = (refl, c.requires.few, passed_none c.requires.inside)

pub loop-i-preserved : goal.loop-i-preserved
loop-i-preserved g c =
    let t = g.T.Element in
    let p = c.loop-i.invariant in (
      simp length-set p.0,
      p.1,
      rw (map-set t.bits, c.from-k.ensures, c.WIDTH.ensures)
          (passed-stored c.loop-i-test.true (rw length-map (omega arith)) c.read.ensures p.2),
    )

pub slice_bounds-result-end : goal.slice_bounds-result-end
slice_bounds-result-end g c =
    let t = g.T.Element in
    let l = c.loop-i in
    passed_length c.loop-i-test.false l.invariant.2 ∙ ap length (take-map t.bits c.args.s.count l.out) ∙ length-map _ t.bits

pub returns : goal.returns
returns g c =
    let t = g.T.Element in
    rw (← take-map t.bits) (sym (passed-all c.loop-i-test.false c.loop-i.invariant.2))
