-- `singles::serialize_single_lookup` meets its contract.
-- Assumes nothing.
use native.Mathlib.Omega.{arith}
use mathlib.Core.Path.{◌∙◌}
use Rattle.singles.proofs.SingleLaws.{uneven_refused, long_refused, room_refused, parts-written}
use Rattle.singles.proofs.serialize_single_lookup.Goals as goal

pub returns-then-glyphs-n : goal.returns-then-glyphs-n
returns-then-glyphs-n c =
    let a = c.args in
    uneven_refused a.flags a.glyphs.now a.substitutes.now a.area.now c.if-glyphs-n.true

pub returns-then-n-gt-SINGLE_LIMIT : goal.returns-then-n-gt-SINGLE_LIMIT
returns-then-n-gt-SINGLE_LIMIT c =
    let a = c.args in
    long_refused a.flags a.glyphs.now a.substitutes.now a.area.now c.if-glyphs-n.false (omega arith) (λ i. omega (arith, c.type_inv.glyphs i)) (λ i. omega (arith, c.type_inv.substitutes i)) (omega (arith, c.if-n-gt-SINGLE_LIMIT.true))

pub returns-then-area-n : goal.returns-then-area-n
returns-then-area-n c =
    let a = c.args in
    room_refused a.flags a.glyphs.now a.substitutes.now a.area.now c.if-glyphs-n.false (omega arith) (λ i. omega (arith, c.type_inv.glyphs i)) (λ i. omega (arith, c.type_inv.substitutes i)) (omega (arith, c.if-n-gt-SINGLE_LIMIT.false)) (omega (arith, c.if-area-n.true))

pub shape_of-area : goal.shape_of-area
shape_of-area c =
    c.put_words-end.ensures.same ∙ c.put_words-c.ensures.same ∙ c.put_words-b.ensures.same ∙ c.put_words-a.ensures.same

pub returns : goal.returns
returns c =
    let a = c.args in
    parts-written a.flags a.glyphs.now a.substitutes.now a.area.now c.if-glyphs-n.false (omega arith) (λ i. omega (arith, c.type_inv.glyphs i)) (λ i. omega (arith, c.type_inv.substitutes i)) c.if-n-gt-SINGLE_LIMIT.false c.if-area-n.false
    c.put_words-a.ensures c.put_words-b.ensures c.put_words-c.ensures c.put_words-end.ensures
