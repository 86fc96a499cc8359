-- `fonts::Font::nominal_glyph` meets its contract.
-- Assumes nothing.
use native.Mathlib.Omega.{arith}
use Rattle.fonts.proofs.FontLaws.{searching_begins, searching_next, searching_finds, searching_ends, searching_nowhere}
use Rattle.fonts.proofs.Font.nominal_glyph.Goals as goal

pub returns-then-n-eq0 : goal.returns-then-n-eq0
returns-then-n-eq0 c =
    let a = c.args in
    searching_nowhere a.self.codes.now a.self.glyphs.now a.code.0 c.if-n-eq0.true

pub loop-half-init : goal.loop-half-init
loop-half-init c =
    searching_begins c.args.self.sound c.span_of-span.ensures (omega (arith, c.if-n-eq0.false)) c.later-base.ensures

pub loop-half-preserved : goal.loop-half-preserved
loop-half-preserved c =
    searching_next c.args.self.sound c.loop-half.invariant c.loop-half-test.true c.later-base-in-loop-half.ensures

pub returns-then-self-base : goal.returns-then-self-base
returns-then-self-base c =
    searching_finds c.loop-half.invariant c.args.self.glyphs.now c.args.self.sound.even c.if-self-base.true

pub returns : goal.returns
returns c =
    searching_ends c.loop-half.invariant c.args.self.glyphs.now (omega (arith, c.loop-half-test.false)) c.if-self-base.false
