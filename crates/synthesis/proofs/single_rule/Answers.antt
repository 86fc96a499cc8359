-- `synthesis::single_rule` meets its contract.
-- Assumes nothing.
use Rattle.fonts.specs.Lent.{font_lent}
use Rattle.synthesis.proofs.RowLaws.{single_zero, single_no_form, single_no_glyph, single_equal, single-made}
use Rattle.synthesis.proofs.single_rule.Goals as goal

pub returns-then-form-eq0 : goal.returns-then-form-eq0
returns-then-form-eq0 c =
    single_zero (font_lent c.args.font) c.args.code c.args.form c.if-form-eq0.true

pub returns-in_err-target : goal.returns-in_err-target
returns-in_err-target c =
    let a = c.args in
    rw c.from_residual.ensures
    (single_no_form (font_lent a.font) a.code a.form c.if-form-eq0.false (rw c.from.ensures at c.in_err-target.ensures))

pub returns-in_err-glyph : goal.returns-in_err-glyph
returns-in_err-glyph c =
    let a = c.args in
    rw c.from_residual-in_err-glyph.ensures
    (single_no_glyph (font_lent a.font) a.code a.form c.if-form-eq0.false (rw c.from.ensures at c.in_ok-target.ensures) (rw c.from-2.ensures at c.in_err-glyph.ensures))

pub returns-then-glyph-target : goal.returns-then-glyph-target
returns-then-glyph-target c =
    let a = c.args in
    single_equal (font_lent a.font) a.code a.form c.if-form-eq0.false (rw c.from.ensures at c.in_ok-target.ensures) (rw c.from-2.ensures at c.in_ok-glyph.ensures) c.if-glyph-target.true

pub returns : goal.returns
returns c =
    let a = c.args in
    rw (c.from-3.ensures, c.from-4.ensures)
    (single-made (font_lent a.font) a.code a.form c.if-form-eq0.false (rw c.from.ensures at c.in_ok-target.ensures) (rw c.from-2.ensures at c.in_ok-glyph.ensures) c.if-glyph-target.false)
