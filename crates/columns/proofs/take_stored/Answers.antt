-- `columns::take_stored` meets its contract: all elements are copied at once, or gathered.
-- Assumes nothing.
use mathlib.Core.Path.{sym}
use lib.Seq.{length-take-le}
use Rattle.columns.proofs.FormLaws.{found}
use Rattle.columns.proofs.take_stored.Goals as goal

pub copied-requires : goal.copied-requires
copied-requires g c =
    let f = found _ _ _ _ _ (rw c.WIDTH.ensures at c.find-s.ensures) in
    (f.inside, f.few)

pub slice_bounds-result-end : goal.slice_bounds-result-end
slice_bounds-result-end g c =
    let f = found _ _ _ _ _ (rw c.WIDTH.ensures at c.find-s.ensures) in
    sym (length-take-le c.find-s.result.count c.copied.new.out (rw (c.copied.ensures.all c.if-copied.true).0 f.few))

pub returns-then-copied : goal.returns-then-copied
returns-then-copied g c =
    let f = found _ _ _ _ _ (rw c.WIDTH.ensures at c.find-s.ensures) in
    rw (c.copied.ensures.all c.if-copied.true).1 f.is

pub gather-requires : goal.gather-requires
gather-requires g c =
    let f = found _ _ _ _ _ (rw c.WIDTH.ensures at c.find-s.ensures) in
    record { inside = f.inside; few = rw (c.copied.ensures.none c.if-copied.false) f.few }

pub returns : goal.returns
returns g c =
    let f = found _ _ _ _ _ (rw c.WIDTH.ensures at c.find-s.ensures) in
    rw c.gather.ensures f.is
