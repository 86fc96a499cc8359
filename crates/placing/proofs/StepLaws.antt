-- Two sums that saturate, one after the other, through locals.
-- Assumes nothing.
use mathlib.Core.Path.{◌≡◌}
use lib.IntN.{ℤ}
use mir.Syntax.{w32}
use mir.Val.{SFits, to_z, of_z}
use Rattle.fitting.specs.Saturating.{sat_add_lem, sat_sub_lem}
use Rattle.fitting.proofs.SignedLaws.{back, ret, sat_add-fits, sat_sub-fits}

module _ {x w lap s r : ℤ} (fx : SFits w32 x) (fw : SFits w32 w) (fl : SFits w32 lap) where
  pub then_add : s ≡ sat_sub_lem (to_z w32 (of_z w32 x)) (to_z w32 (of_z w32 w)) → r ≡ sat_add_lem (to_z w32 (of_z w32 s)) (to_z w32 (of_z w32 lap)) → to_z w32 (of_z w32 r) ≡ sat_add_lem (sat_sub_lem x w) lap
  then_add p q =
      let stored = ret (sat_sub-fits x w) (rw (back fx, back fw) at p) in
      ret (sat_add-fits _ _) (rw (stored, back fl) at q)

  pub then_sub : s ≡ sat_add_lem (to_z w32 (of_z w32 x)) (to_z w32 (of_z w32 w)) → r ≡ sat_sub_lem (to_z w32 (of_z w32 s)) (to_z w32 (of_z w32 lap)) → to_z w32 (of_z w32 r) ≡ sat_sub_lem (sat_add_lem x w) lap
  then_sub p q =
      let stored = ret (sat_add-fits x w) (rw (back fx, back fw) at p) in
      ret (sat_sub-fits _ _) (rw (stored, back fl) at q)
