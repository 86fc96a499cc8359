-- `joining::KnownLetters::first` meets its contract: the nearest letter is the nearest of what is left.
-- Assumes nothing.
use mathlib.Core.Path.{sym, ◌∙◌}
use Rattle.letters.specs.Types.{T}
use Rattle.letters.proofs.TestLaws.{ne_other, ne_same}
use Rattle.joining.proofs.LettersLaws.{nearest-skips, nearest-stops, letters-end}
use Rattle.joining.proofs.known.KnownLetters.first.Goals as goal

pub returns-then-ne : goal.returns-then-ne
returns-then-ne c =
    let l = c.loop-i in
    sym (l.invariant ∙ nearest-stops c.args.self.joinable l.i _ c.type_at-this_type.ensures c.loop-i-test.true (ne_other _ T c.ne.ensures c.if-ne.true))

pub loop-i-preserved : goal.loop-i-preserved
loop-i-preserved c =
    let l = c.loop-i in
    l.invariant ∙ nearest-skips c.args.self.joinable l.i _ c.type_at-this_type.ensures c.loop-i-test.true (ne_same _ T c.ne.ensures c.if-ne.false)

pub returns : goal.returns
returns c = sym (c.loop-i.invariant ∙ letters-end c.args.self.joinable c.loop-i.i c.loop-i-test.false)
