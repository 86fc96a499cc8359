-- `recognizing::single` meets its contract.
-- Assumes nothing.
use native.Mathlib.Omega.{arith}
use mathlib.Core.Path.{◌≡◌, ap, ◌∙◌}
use Prim.Native.Nat.{ℕ, ◌-◌, ◌/◌}
use Rattle.accepting.proofs.TookLaws.{handed}
use Rattle.recognizing.specs.Recognized.{count_at}
use Rattle.recognizing.proofs.WholeLaws.{opened_known, single-begins, single-stops, single_taken}
use Rattle.recognizing.proofs.single.Goals as goal
use Rattle.recognizing.proofs.single.Goals.{After-from}

-- the count that the bytes say
count : (s : After-from) → (s.from.result - 6) / 2 ≡ count_at s.args.bytes.now
count s = ap (λ (o : ℕ). (o - 6) / 2) (s.from.ensures ∙ s.u16_at.ensures)

pub returns-in_err-p : goal.returns-in_err-p
returns-in_err-p c =
    rw (handed c.from_residual.ensures) (single-begins c.args.bytes.now _ c.in_err-p.ensures.0, tt)

pub u16_at-requires : goal.u16_at-requires
u16_at-requires c = let place = c.in_ok-p.ensures.0.place in omega (arith, place.0, place.1)

pub overflow_sub-n : goal.overflow_sub-n
overflow_sub-n c = omega (arith, c.in_ok-p.ensures.1.0, c.from.ensures, c.u16_at.ensures)

pub several-requires : goal.several-requires
several-requires c = c.in_ok-p.ensures.0.place.1

pub returns-in_err-q : goal.returns-in_err-q
returns-in_err-q c =
    rw (handed c.from_residual-in_err-q.ensures)
    (single-stops c.args.bytes.now c.in_ok-p.p c.in_ok-p.ensures.0 _ (count (goal.at.returns-in_err-q c).After-from) _ c.in_err-q.ensures, tt)

pub covered-requires : goal.covered-requires
covered-requires c =
    (c.in_ok-q.ensures.place.1, omega arith, omega (arith, c.in_ok-p.ensures.1.1, count (goal.at.covered-requires c).After-from))

pub returns : goal.returns
returns c = (
  single_taken c.args.bytes.now c.in_ok-p.p c.in_ok-p.ensures.0 _ (count (goal.at.returns c).After-from) c.in_ok-q.q c.in_ok-q.ensures _ c.covered.ensures,
  opened_known c.covered.result _ c.in_ok-p.ensures.1.0,
)
