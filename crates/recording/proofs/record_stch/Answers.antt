-- `recording::record_stch` meets its contract: a refusal leaves the actions, and so does an accepted call without a mask; with one, they are recorded.
-- Assumes nothing.
use mathlib.Core.Path.{◌≡◌, refl, sym}
use mathlib.Core.Bool.{false}
use mathlib.Core.List.{List}
use Prim.Native.Nat.{ℕ}
use Rattle.std.proofs.lemmas.Result.{err_from_is_err_and}
use Rattle.refusals.proofs.VerdictLaws.{refused_number}
use Rattle.refusals.proofs.LeftLaws.{left_refused, left-done}
use Rattle.recording.specs.Recorded.{RecordOutcome, record_request, record_outcome, recorded, record_refusal}
use Rattle.recording.proofs.RecordedLaws.{Allowed, allowed, recorded-masked, recorded-unmasked}
use Rattle.recording.proofs.record_stch.Goals as goal
use Rattle.recording.proofs.record_stch.Goals.{In_ok-refused}

-- what the call leaves if it is refused
abbrev old : List ℕ → RecordOutcome
old acts = record_outcome false acts

-- where the tests accept, their number is 0
accepted : (c : In_ok-refused) → 0 ≡ record_refusal (record_request c.args.mask c.args.multiplied.now c.args.components.now) c.args.actions.now
unfolding record_refusal
accepted c = c.in_ok-refused.ensures

given : (c : In_ok-refused) → Allowed (record_request c.args.mask c.args.multiplied.now c.args.components.now) c.args.actions.now
given c = allowed (record_request c.args.mask c.args.multiplied.now c.args.components.now) c.args.actions.now (sym (accepted c))

-- refused
pub returns-in_err-refused : goal.returns-in_err-refused
unfolding record_refusal
returns-in_err-refused c =
    let q = record_request c.args.mask c.args.multiplied.now c.args.components.now in
    let l = c.args.actions.now in
    let p = err_from_is_err_and c.from_residual.result c.from_residual.ensures.1 in
    rw (p.1, p.2) (left_refused (record_refusal q l) (old l) (recorded q l) _ c.in_err-refused.ensures (refused_number c.in_err-refused.field-0.0))

-- accepted, without a mask
pub returns-then-mask-eq0 : goal.returns-then-mask-eq0
returns-then-mask-eq0 c =
    let q = record_request c.args.mask c.args.multiplied.now c.args.components.now in
    let l = c.args.actions.now in
    left-done _ (old l) (recorded q l) _ _ (accepted (goal.at.returns-then-mask-eq0 c).In_ok-refused) refl (recorded-unmasked q l c.if-mask-eq0.true)

pub record_all-requires : goal.record_all-requires
record_all-requires c = let a = given (goal.at.record_all-requires c).In_ok-refused in (a.even, a.even-actions)

-- and with one
pub returns : goal.returns
returns c =
    let q = record_request c.args.mask c.args.multiplied.now c.args.components.now in
    let l = c.args.actions.now in
    let done = c.record_all in
    left-done _ (old l) (recorded q l) _ _ (accepted (goal.at.returns c).In_ok-refused) refl (recorded-masked q l c.if-mask-eq0.false done.ensures.any done.ensures.stored)
