-- `recognizing::ligature` meets its contract.
-- Assumes nothing.
use native.Mathlib.Omega.{arith}
use mathlib.Core.Path.{◌≡◌, ap, ◌∙◌}
use Prim.Native.Nat.{ℕ, ◌-◌, ◌/◌}
use Rattle.accepting.proofs.TookLaws.{handed}
use Rattle.recognizing.specs.Recognized.{count_at}
use Rattle.recognizing.proofs.WholeLaws.{opened_known, most-small, sets-few, ligature-begins, ligature-starts, ligature-covered, ligature_taken}
use Rattle.recognizing.proofs.ligature.Goals as goal
use Rattle.recognizing.proofs.ligature.Goals.{After-from}

-- the count that the bytes say
count : (s : After-from) → (s.from.result - 6) / 2 ≡ count_at s.args.bytes.now
count s = ap (λ (o : ℕ). (o - 6) / 2) (s.from.ensures ∙ s.u16_at.ensures)

pub begun-requires : goal.begun-requires
begun-requires c = most-small c.args.n c.requires.1

pub returns-in_err-p : goal.returns-in_err-p
returns-in_err-p c =
    let a = c.args in
    rw (handed c.from_residual.ensures) (ligature-begins a.n a.bytes.now _ c.in_err-p.ensures.0, tt)

pub u16_at-requires : goal.u16_at-requires
u16_at-requires c = let place = c.in_ok-p.ensures.0.place in omega (arith, place.0, place.1)

pub overflow_sub-s : goal.overflow_sub-s
overflow_sub-s c = omega (arith, c.in_ok-p.ensures.1.0, c.from.ensures, c.u16_at.ensures)

pub starts-requires : goal.starts-requires
starts-requires c =
    let p = c.requires in
    (c.in_ok-p.ensures.0.place.1, p.1, sets-few c.args.n _ _ p.0 p.1 (count (goal.at.starts-requires c).After-from) c.in_ok-p.ensures.1.1)

pub returns-in_err-q : goal.returns-in_err-q
returns-in_err-q c =
    let a = c.args in
    rw (handed c.from_residual-in_err-q.ensures)
    (ligature-starts a.n a.bytes.now c.in_ok-p.p c.in_ok-p.ensures.0 _ (count (goal.at.returns-in_err-q c).After-from) _ c.in_err-q.ensures, tt)

pub covered-requires : goal.covered-requires
covered-requires c =
    let p = c.requires in
    let few = sets-few c.args.n _ _ p.0 p.1 (count (goal.at.covered-requires c).After-from) c.in_ok-p.ensures.1.1 in
    (c.in_ok-q.ensures.place.1, omega arith, omega (arith, few))

pub returns-in_err-covered : goal.returns-in_err-covered
returns-in_err-covered c =
    let a = c.args in
    rw (handed c.from_residual-in_err-covered.ensures)
    (ligature-covered a.n a.bytes.now c.in_ok-p.p c.in_ok-p.ensures.0 _ (count (goal.at.returns-in_err-covered c).After-from) c.in_ok-q.q c.in_ok-q.ensures _ c.in_err-covered.ensures, tt)

pub sets-requires : goal.sets-requires
sets-requires c =
    let p = c.requires in
    let few = sets-few c.args.n _ _ p.0 p.1 (count (goal.at.sets-requires c).After-from) c.in_ok-p.ensures.1.1 in
    let behind = c.in_ok-covered.ensures.place in
    (omega (arith, p.0), p.1, few, omega (arith, behind.0, behind.1, c.in_ok-q.ensures.place.0, c.in_ok-p.ensures.0.place.0))

pub returns : goal.returns
returns c =
    let a = c.args in (
      ligature_taken a.n a.bytes.now c.in_ok-p.p c.in_ok-p.ensures.0 _ (count (goal.at.returns c).After-from) c.in_ok-q.q c.in_ok-q.ensures c.in_ok-covered.field-0 c.in_ok-covered.ensures _ c.sets.ensures,
      opened_known c.sets.result _ c.in_ok-p.ensures.1.0,
    )
