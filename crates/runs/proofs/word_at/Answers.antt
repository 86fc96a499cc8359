-- `runs::word_at` meets its contract: the word's sum is the one so far, and what its records from here on add to it.
-- Assumes nothing.
use mathlib.Core.Path.{refl, sym, ◌∙◌}
use mir.Syntax.{w32}
use mir.Val.{to_z}
use Rattle.runs.specs.Measured.{word_sum}
use Rattle.runs.proofs.RecordLaws.{spot-below}
use Rattle.runs.proofs.TurnLaws.{summed, word_turn, word-stops, word_over}
use Rattle.runs.proofs.word_at.Goals as goal

pub loop-k-init : goal.loop-k-init
unfolding word_sum
loop-k-init c = λ l lent. refl

pub bounds-line-i : goal.bounds-line-i
bounds-line-i c = rw c.part-i.ensures (spot-below _ _ _ c.loop-k-test.true)

pub bounds-line-i-in-loop-k : goal.bounds-line-i-in-loop-k
bounds-line-i-in-loop-k c =
    rw (c.part-i.ensures, c.requires.categories_len) (spot-below _ _ _ c.loop-k-test.true)

pub bounds-line-i-in-loop-k-2 : goal.bounds-line-i-in-loop-k-2
bounds-line-i-in-loop-k-2 c =
    rw (c.part-i.ensures, c.requires.ignorables_len) (spot-below _ _ _ c.loop-k-test.true)

pub at-requires : goal.at-requires
at-requires c =
    rw (c.part-i.ensures, c.requires.advances_len) (spot-below _ _ _ c.loop-k-test.true)

pub loop-k-preserved : goal.loop-k-preserved
loop-k-preserved c =
    let a = c.args in
    let e = summed c.loop-k.sum-bits _ _ _ c.at.type_inv c.at.ensures c.sat_add-sum.ensures in
    λ l lent. c.loop-k.invariant l lent ∙ rw e (word_turn a.rtl l a.line.actions.now lent.has_actions c.loop-k.k c.part-i.result c.loop-k-test.true c.part-i.ensures a.line.categories.now a.line.ignorables.now a.line.advances.now lent (to_z w32 c.loop-k.sum-bits) c.in_word.result c.in_word.ensures c.if-not-in_word.false)

pub returns-then-not-in_word : goal.returns-then-not-in_word
returns-then-not-in_word c =
    λ l lent.
    let a = c.args in
    sym (c.loop-k.invariant l lent ∙ word-stops a.rtl l a.line.actions.now lent.has_actions c.loop-k.k c.part-i.result c.loop-k-test.true c.part-i.ensures a.line.categories.now a.line.ignorables.now a.line.advances.now lent (to_z w32 c.loop-k.sum-bits) c.in_word.result c.in_word.ensures c.if-not-in_word.true)

pub returns : goal.returns
returns c =
    λ l lent.
    let a = c.args in
    sym (c.loop-k.invariant l lent ∙ word_over a.rtl l a.line.actions.now lent.has_actions c.loop-k.k c.loop-k-test.false (to_z w32 c.loop-k.sum-bits))
