-- `runs::stretched_length` meets its contract: what the runs so far add is counted, and a run begins here.
-- Assumes nothing.
use mathlib.Core.Path.{refl, ◌∙◌}
use mathlib.Core.List.{List, []}
use lib.IntN.{ℤ}
use Prim.Native.Nat.{ℕ}
use native.Mathlib.Omega.{arith}
use lib.ListN.{length}
use Rattle.runs.specs.Records.{columns}
use Rattle.runs.specs.Stretched.{work}
use Rattle.runs.specs.Measured.{Lent}
use Rattle.runs.proofs.RecordLaws.{length-work}
use Rattle.runs.proofs.MeasuredLaws.{plain_fits}
use Rattle.runs.proofs.CountLaws.{counting_starts, counting_run, counting_ends, Turned, turned}
use Rattle.runs.proofs.stretched_length.Goals as goal
use Rattle.runs.proofs.stretched_length.Goals.{After-measured_at-run}

lent_any : (ws : List ℤ) (cs us ts : List ℕ) (vs : List ℤ) → Lent (columns [] ws cs us ts vs []) ws cs us ts vs
lent_any ws cs us ts vs = record { has_widths = refl; has_categories = refl; has_ignorables = refl; has_actions = refl; has_advances = refl }

turned-here : (c : After-measured_at-run) → Turned (length c.args.line.actions.now) c.loop-k.k c.measured_at-run.result
turned-here c =
    let t = c.loop-k in
    turned c.args.rtl (columns [] c.args.line.widths.now c.args.line.categories.now c.args.line.ignorables.now c.args.line.actions.now c.args.line.advances.now []) t.k t.total c.measured_at-run.result c.loop-k-test.true (t.invariant.2 (columns [] c.args.line.widths.now c.args.line.categories.now c.args.line.ignorables.now c.args.line.actions.now c.args.line.advances.now []) (lent_any _ _ _ _ _)) (c.measured_at-run.ensures (columns [] c.args.line.widths.now c.args.line.categories.now c.args.line.ignorables.now c.args.line.actions.now c.args.line.advances.now []) (lent_any _ _ _ _ _))

pub next_run-k-requires : goal.next_run-k-requires
next_run-k-requires c = record { from_in_bounds = omega arith; actions_value = c.requires.actions_value }

pub loop-k-init : goal.loop-k-init
loop-k-init c =
    let a = c.args in
    let first = c.next_run-k.ensures in
    (rw (first (columns [] c.args.line.widths.now c.args.line.categories.now c.args.line.ignorables.now c.args.line.actions.now c.args.line.advances.now []) refl) (plain_fits a.rtl (columns [] c.args.line.widths.now c.args.line.categories.now c.args.line.ignorables.now c.args.line.actions.now c.args.line.advances.now []) 0 (omega arith)), omega arith, λ l lent. rw (← lent.has_actions, ← length-work a.rtl l) (counting_starts (work a.rtl l) c.next_run-k.result (first l lent.has_actions ∙ omega arith)))

pub measured_at-run-requires : goal.measured_at-run-requires
measured_at-run-requires c =
    record { from_in_bounds = omega arith; actions_len_bound = c.requires.actions_len_bound; even = c.requires.even }

pub overflow_mul-total : goal.overflow_mul-total
overflow_mul-total c =
    let t = turned-here (goal.at.overflow_mul-total c).After-measured_at-run in
    record { fits = omega (arith, t.adds, t.fits, c.requires.actions_len_bound) }

pub overflow_add-total : goal.overflow_add-total
overflow_add-total c =
    let t = turned-here (goal.at.overflow_add-total c).After-measured_at-run in
    record { fits = omega (arith, t.adds, t.fits, c.loop-k.invariant.1, c.requires.actions_len_bound) }

pub next_run-k-requires-in-loop-k : goal.next_run-k-requires-in-loop-k
next_run-k-requires-in-loop-k c =
    record { from_in_bounds = (turned-here (goal.at.next_run-k-requires-in-loop-k c).After-measured_at-run).fits; actions_value = c.requires.actions_value }

pub loop-k-smaller : goal.loop-k-smaller
loop-k-smaller c =
    let t = turned-here (goal.at.loop-k-smaller c).After-measured_at-run in
    let next = c.next_run-k-in-loop-k.ensures (columns [] c.args.line.widths.now c.args.line.categories.now c.args.line.ignorables.now c.args.line.actions.now c.args.line.advances.now []) refl in
    omega (arith, t.above, t.fits, next)

pub loop-k-preserved : goal.loop-k-preserved
loop-k-preserved c =
    let t = turned-here (goal.at.loop-k-preserved c).After-measured_at-run in
    let a = c.args in
    let s = c.loop-k in
    let run = c.measured_at-run.result in
    let next = c.next_run-k-in-loop-k.ensures in (
      rw (next (columns [] c.args.line.widths.now c.args.line.categories.now c.args.line.ignorables.now c.args.line.actions.now c.args.line.advances.now []) refl) (plain_fits a.rtl (columns [] c.args.line.widths.now c.args.line.categories.now c.args.line.ignorables.now c.args.line.actions.now c.args.line.advances.now []) run.past t.fits),
      omega (arith, t.adds, s.invariant.1, next (columns [] c.args.line.widths.now c.args.line.categories.now c.args.line.ignorables.now c.args.line.actions.now c.args.line.advances.now []) refl),
      λ l lent. counting_run (work a.rtl l) s.k s.total run (s.invariant.2 l lent) (c.measured_at-run.ensures l lent) c.next_run-k-in-loop-k.result (next l lent.has_actions),
    )

pub returns : goal.returns
returns c =
    λ l lent.
    let s = c.loop-k in
    let a = c.args in
    counting_ends (work a.rtl l) a.rtl s.k s.total (rw (length-work a.rtl l, lent.has_actions) c.loop-k-test.false) (s.invariant.2 l lent)
