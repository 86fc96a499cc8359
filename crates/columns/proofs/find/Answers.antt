-- `columns::find` meets its contract: its tests are those of `fits`, and where they hold the column is whole.
-- Assumes nothing.
use Prim.Native.Nat.{◌+◌, ◌-◌, ◌*◌, ◌≤◌}
use mathlib.Core.Path.{◌≡◌}
use native.Mathlib.Omega.{arith}
use borrow.Author.Rules.{rules}
use lib.ListN.{get_or}
use Rattle.columns.proofs.FormLaws.{bytes-few, tests_hold, tests_fail, span_none, span-whole}
use Rattle.columns.proofs.find.Goals as goal
use Rattle.columns.proofs.find.Goals.{Then-body-at}

-- what the tests say where they hold
held : (c : Then-body-at) → let a = c.args in let n = c.read-count.result in (get_or a.body.now (a.at + 4) 0 ≡ a.width) × (n * a.width ≤ c.left-room.result - 5) × (n ≤ a.most)
held c =
    let a = c.args in
    let n = c.read-count.result in
    tests_hold (get_or a.body.now (a.at + 4) 0) a.width (n * a.width) (c.left-room.result - 5) n a.most c.if-body-at.true

pub returns-then-room-lt5 : goal.returns-then-room-lt5
returns-then-room-lt5 c =
    let a = c.args in
    span_none a.body.now a.width a.most a.at (λ f. omega (arith, f.head))

pub overflow_mul-bytes : goal.overflow_mul-bytes
overflow_mul-bytes c =
    omega (arith, bytes-few c.read-count.result c.args.width (search rules) (search rules))

pub overflow_add-result : goal.overflow_add-result
overflow_add-result c = omega (arith, held (goal.at.overflow_add-result c).Then-body-at)

pub returns-then-body-at : goal.returns-then-body-at
returns-then-body-at c =
    let a = c.args in
    span-whole a.body.now a.width a.most a.at c.read-count.ensures (held (goal.at.returns-then-body-at c).Then-body-at).0 (omega (arith, held (goal.at.returns-then-body-at c).Then-body-at)) (held (goal.at.returns-then-body-at c).Then-body-at).2

pub returns : goal.returns
returns c =
    let a = c.args in
    let n = c.read-count in
    span_none a.body.now a.width a.most a.at
    (λ f.
    tests_fail (get_or a.body.now (a.at + 4) 0) a.width (n.result * a.width) (c.left-room.result - 5) n.result a.most
    c.if-body-at.false
    f.width
    (omega (arith, rw (← n.ensures) at f.inside))
    (rw n.ensures f.few))
