-- `fitting::sat_sub` meets its contract: the difference fits 64 bits, and its nearest number is returned.
-- Assumes nothing.
use lib.IntN.{◌-ℤ◌}
use Rattle.fitting.specs.Saturating.{sat_sub_lem}
use Rattle.fitting.proofs.SignedLaws.{sub_fits, wide_fits, widened, nearest}
use Rattle.fitting.proofs.sat_sub.Goals as goal

pub overflow_cast-a : goal.overflow_cast-a
overflow_cast-a c = wide_fits c.ranges.a

pub overflow_cast-b : goal.overflow_cast-b
overflow_cast-b c = wide_fits c.ranges.b

pub overflow_sub-a : goal.overflow_sub-a
overflow_sub-a c = rw (widened c.ranges.a, widened c.ranges.b) (sub_fits c.ranges.a c.ranges.b)

pub returns : goal.returns
unfolding sat_sub_lem
returns c = let f = c.ranges in nearest ◌-ℤ◌ f.a f.b (sub_fits f.a f.b) c.clamp.ensures
