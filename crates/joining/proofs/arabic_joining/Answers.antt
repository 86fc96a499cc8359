-- `joining::arabic_joining` meets its contract: the walk keeps what `Walking` says.
-- Assumes nothing.
use mathlib.Core.Path.{◌∙◌}
use Rattle.letters.specs.Types.{T}
use Rattle.letters.proofs.TestLaws.{same, other}
use Rattle.joining.proofs.LettersLaws.{context_below}
use Rattle.joining.proofs.MidwayLaws.{begins, skips, taken_below, takes, ends}
use Rattle.joining.proofs.arabic_joining.Goals as goal

pub bounds-table-before : goal.bounds-table-before
bounds-table-before c = rw c.first-before.ensures (context_below c.args.pre.joinable)

pub loop-i-init : goal.loop-i-init
loop-i-init c =
    rw (← c.first-before.ensures)
    (begins c.state_table-table.ensures c.args.line.joinable _ _ _
    (rw c.first-before.ensures (context_below c.args.pre.joinable)) (rw c.first-after.ensures (context_below c.args.post.joinable)) c.requires)

pub loop-i-preserved-then-eq : goal.loop-i-preserved-then-eq
loop-i-preserved-then-eq c =
    skips c.loop-i.invariant _ c.type_at-this_type.ensures c.loop-i-test.true (same _ T c.eq.ensures c.if-eq.true)

pub bounds-table-state : goal.bounds-table-state
bounds-table-state c = c.loop-i.invariant.state_seven

pub bounds-table-this_type : goal.bounds-table-this_type
bounds-table-this_type c =
    taken_below c.loop-i.invariant _ c.type_at-this_type.ensures c.loop-i-test.true (other _ T c.eq.ensures c.if-eq.false)

pub loop-i-preserved : goal.loop-i-preserved
loop-i-preserved c =
    takes c.loop-i.invariant _ c.type_at-this_type.ensures c.loop-i-test.true (other _ T c.eq.ensures c.if-eq.false) _ c.revise.auto.actions c.revise.ensures

pub bounds-table-state-after-loop-i : goal.bounds-table-state-after-loop-i
bounds-table-state-after-loop-i c = c.loop-i.invariant.state_seven

pub bounds-table-after : goal.bounds-table-after
bounds-table-after c = c.loop-i.invariant.after-below

pub returns : goal.returns
returns c = ends c.loop-i.invariant c.loop-i-test.false _ c.revise-2.ensures ∙ rw c.first-after.ensures
