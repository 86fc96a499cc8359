-- Where a digit may follow, nothing wraps.
-- Assumes nothing.
use Prim.Native.Nat.{ℕ, ◌*◌, ◌≤◌, ◌<◌}
use mathlib.Core.Bool.{Bool, true, false, cond, and-eq-true_iff}
use mathlib.Core.Path.{◌≡◌}
use native.Mathlib.Omega.{arith}
use native.Mathlib.Nat.{mul-le-mul}
use lib.Dec.{ltb, eqb}
use borrow.Author.Tests.{ltb-true}
use Rattle.entries.specs.declared.State.{State}
use Rattle.entries.specs.Steps.{base, most, follows}

pub base-few : (k : ℕ) → base k ≤ 16
base-few k = go (eqb k 0)
  where
    go : (b : Bool) → cond b 16 10 ≤ 16
    go true = omega arith
    go false = omega arith

pub most-few : (k : ℕ) → most k ≤ 6
most-few k = go (eqb k 0)
  where
    go : (b : Bool) → cond b 6 3 ≤ 6
    go true = omega arith
    go false = omega arith

-- What it is for a digit to follow.
pub record Follows (s : State) (d : ℕ) : Type 0 where
  pub digit : d < base s.field
  pub few : s.digits < 6
  pub product : s.value * base s.field ≤ 16777200
  pub small : d < 16

pub follows-fits : (s : State) (d : ℕ) → follows s d ≡ true → Follows s d
unfolding follows
follows-fits s d e =
    let k = s.field in
    let p = (and-eq-true_iff (ltb k 3) _).0 e in
    let q = (and-eq-true_iff (ltb d (base k)) _).0 p.1 in
    let r = (and-eq-true_iff (ltb s.digits (most k)) _).0 q.1 in
    let t = (and-eq-true_iff (ltb s.value 1048576) _).0 r.1 in
    let below : d < base k = ltb-true _ _ q.0 in
    let few : s.digits < most k = ltb-true _ _ r.0 in
    let small : s.value < 1048576 = ltb-true _ _ t.0 in
    record {
      digit = below;
      few = omega (arith, most-few k);
      product = mul-le-mul {n₁ = s.value} {m₁ = base k} {n₂ = 1048575} {m₂ = 16} (omega arith) (base-few k);
      small = omega (arith, base-few k);
    }
