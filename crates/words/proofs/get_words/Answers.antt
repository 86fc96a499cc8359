-- `words::get_words` meets its contract: the words before place i stand in the column, the rest is as it was.
-- Assumes nothing.
use native.Mathlib.Omega.{arith}
use mathlib.Core.Path.{◌≡◌, sym, ◌∙◌}
use Rattle.laws.proofs.PasteLaws.{paste_none}
use Rattle.words.specs.Words.{words_at}
use Rattle.words.proofs.WordLaws.{length-words, paste_front, fill_next}
use Rattle.words.proofs.get_words.Goals as goal

pub loop-i-init : goal.loop-i-init
unfolding words_at
loop-i-init c = sym (paste_none 0 c.args.column.now)

pub loop-i-preserved : goal.loop-i-preserved
loop-i-preserved c =
    let a = c.args in
    let l = c.loop-i in
    rw l.invariant (fill_next a.bytes.now a.at l.i a.column.now (omega (arith, c.loop-i-test.true, c.requires.1)) c.u16_at.result c.u16_at.ensures)

pub returns : goal.returns
returns c =
    let a = c.args in
    let all : c.loop-i.i ≡ a.n = omega (arith, c.loop-i-test.false, c.loop-i.auto.i-end) in
    c.loop-i.invariant ∙ rw all (paste_front (words_at a.bytes.now a.at a.n) a.column.now ∙ rw (length-words a.bytes.now a.at a.n))
