-- `synthesis::Rows::collect` meets its contract.
-- Assumes nothing.
use Prim.Native.Nat.{◌+◌, ◌-◌, ◌*◌}
use native.Mathlib.Omega.{arith}
use mathlib.Core.Path.{◌≡◌}
use Rattle.fonts.specs.Lent.{font_lent}
use Rattle.synthesis.proofs.CollectLaws.{collecting_next, collecting_ends}
use Rattle.synthesis.proofs.Rows.collect.Goals as goal

pub loop-i-preserved : goal.loop-i-preserved
loop-i-preserved c =
    let r = c.args.self in
    let i = c.loop-i.i in
    let left : r.count - (i + 1) ≡ r.count - i - 1 = omega arith in
    let components : (i + 1) * r.n ≡ i * r.n + r.n = omega arith in
    let ligatures : (i + 1) * r.each ≡ i * r.each + r.each = omega arith in
    rw (left, components, ligatures)
    (collecting_next (font_lent c.args.font) r.count r.n r.each r.k r.components.now r.ligatures.now c.args.rules.now (r.count - i) (i * r.n) (i * r.each) c.loop-i.made c.loop-i.rules c.loop-i.invariant (omega (arith, c.loop-i-test.true)) c.rule_of-row.result c.rule_of-row.ensures c.keep-made.ensures)

pub returns : goal.returns
returns c =
    let r = c.args.self in
    let i = c.loop-i.i in
    collecting_ends (font_lent c.args.font) r.count r.n r.each r.k r.components.now r.ligatures.now c.args.rules.now (r.count - i) (i * r.n) (i * r.each) c.loop-i.made c.loop-i.rules c.loop-i.invariant (omega (arith, c.loop-i-test.false))
