-- `adding::synthesize_lookup` meets its contract: "zero masks skipped", and a font without codes leaves no rule.
-- Assumes nothing.
use mathlib.Core.Path.{sym, ◌∙◌}
use borrow.Author.Tests.{ne_eqb, eqb-true}
use lib.ListN.{length}
use Rattle.adding.proofs.PushedLaws.{none-without-codes}
use Rattle.adding.proofs.synthesize_lookup.Goals as goal

pub returns-then-is_empty : goal.returns-then-is_empty
returns-then-is_empty c =
    let a = c.args in
    let none = eqb-true (length a.font.codes.now) 0 (sym c.is_empty.ensures ∙ c.if-is_empty.true) in
    rw (ne_eqb a.mask 0 c.if-mask-eq0.false) (none-without-codes a.font.codes.now a.font.glyphs.now none a.rows a.mask a.flags a.draft a.scratch.now)
