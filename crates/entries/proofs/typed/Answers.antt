-- `entries::typed` meets its contract: where a digit may follow, nothing wraps.
-- Assumes nothing.
use mathlib.Core.Bool.{true}
use mathlib.Core.Path.{◌≡◌, sym, ◌∙◌}
use native.Mathlib.Omega.{arith}
use Rattle.entries.specs.Steps.{follows, typed}
use Rattle.entries.proofs.StepLaws.{Follows, follows-fits}
use Rattle.entries.proofs.typed.Goals as goal
use Rattle.entries.proofs.typed.Goals.{Then-follows}

-- what the test says where it holds
may_follow : (c : Then-follows) → let a = c.args in follows a.s a.d ≡ true
may_follow c = sym c.follows.ensures ∙ c.if-follows.true

fits : (c : Then-follows) → let a = c.args in Follows a.s a.d
fits c = let a = c.args in follows-fits a.s a.d (may_follow (search))

pub overflow_add-result : goal.overflow_add-result
overflow_add-result c = omega (arith, (fits (goal.at.overflow_add-result c).Then-follows).few)

pub overflow_mul-result : goal.overflow_mul-result
overflow_mul-result c = let h = c.base.ensures in rw h (omega (arith, (fits (goal.at.overflow_mul-result c).Then-follows).product))

pub overflow_add-result-then-follows : goal.overflow_add-result-then-follows
overflow_add-result-then-follows c = let h = c.base.ensures in rw h (omega (arith, (fits (goal.at.overflow_add-result-then-follows c).Then-follows).product, (fits (goal.at.overflow_add-result-then-follows c).Then-follows).small))

pub returns-then-follows : goal.returns-then-follows
unfolding typed
returns-then-follows c = rw (may_follow (goal.at.returns-then-follows c).Then-follows, c.base.ensures)

pub returns : goal.returns
unfolding typed
returns c = rw (sym c.follows.ensures ∙ c.if-follows.false)
