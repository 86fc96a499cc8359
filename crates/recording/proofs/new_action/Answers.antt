-- `recording::new_action` meets its contract: by whether the record is multiplied, and by the parity of its component number.
-- Assumes nothing.
use mathlib.Core.Path.{◌≡◌}
use Prim.Native.Nat.{◌%◌}
use native.Mathlib.Omega.{arith}
use borrow.Author.Tests.{eq-eqb, ne_eqb}
use Rattle.recording.specs.Recorded.{new_action_lem}
use Rattle.recording.proofs.new_action.Goals as goal

pub returns-then-multiplied-eq0 : goal.returns-then-multiplied-eq0
unfolding new_action_lem
returns-then-multiplied-eq0 c = rw (eq-eqb c.args.multiplied 0 c.if-multiplied-eq0.true)

pub returns-then-component-eq0 : goal.returns-then-component-eq0
unfolding new_action_lem
returns-then-component-eq0 c =
    rw (ne_eqb c.args.multiplied 0 c.if-multiplied-eq0.false, c.if-component-eq0.true)

pub returns : goal.returns
unfolding new_action_lem
returns c =
    let odd : c.args.component % 2 ≡ 1 = omega (arith, c.if-component-eq0.false) in
    rw (ne_eqb c.args.multiplied 0 c.if-multiplied-eq0.false, odd)
