-- `fitting::sat_add` meets its contract: the sum fits 64 bits, and its nearest number is returned.
-- Assumes nothing.
use lib.IntN.{◌+ℤ◌}
use Rattle.fitting.specs.Saturating.{sat_add_lem}
use Rattle.fitting.proofs.SignedLaws.{add_fits, wide_fits, widened, nearest}
use Rattle.fitting.proofs.sat_add.Goals as goal

pub overflow_cast-a : goal.overflow_cast-a
overflow_cast-a c = wide_fits c.ranges.a

pub overflow_cast-b : goal.overflow_cast-b
overflow_cast-b c = wide_fits c.ranges.b

pub overflow_add-a : goal.overflow_add-a
overflow_add-a c = rw (widened c.ranges.a, widened c.ranges.b) (add_fits c.ranges.a c.ranges.b)

pub returns : goal.returns
unfolding sat_add_lem
returns c = let f = c.ranges in nearest ◌+ℤ◌ f.a f.b (add_fits f.a f.b) c.clamp.ensures
