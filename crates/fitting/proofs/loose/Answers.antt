-- `fitting::loose` meets its contract: half of what fits 32 bits fits them.
-- Assumes nothing.
use lib.Dec.{lit<}
use Rattle.fitting.proofs.SignedLaws.{back}
use Rattle.fitting.proofs.FitLaws.{half-fits, loose-back}
use Rattle.fitting.proofs.loose.Goals as goal

pub nonzero_div-result : goal.nonzero_div-result
nonzero_div-result c = (lit< tt, rw (back c.ranges.room) (half-fits c.ranges.room))

pub returns : goal.returns
returns c = loose-back c.args.copies c.ranges.room
