-- `blocks::turn_few` meets its contract: each turn of the loop exchanges the outermost records that are left.
-- Assumes nothing.
use native.Mathlib.Omega.{arith}
use lib.ListN.{length-set}
use Rattle.blocks.proofs.BlockLaws.{turning_begins, turning_on, turning_ends}
use Rattle.blocks.proofs.turn_few.Goals as goal

pub loop-lo-init : goal.loop-lo-init
loop-lo-init c = turning_begins _ _ _ c.requires.codes_len c.requires.a_in_bounds

pub bounds-codes-hi-in-loop-lo : goal.bounds-codes-hi-in-loop-lo
bounds-codes-hi-in-loop-lo c = simp length-set (omega arith)

pub bounds-classes-hi-in-loop-lo : goal.bounds-classes-hi-in-loop-lo
bounds-classes-hi-in-loop-lo c = simp length-set (omega arith)

pub loop-lo-preserved : goal.loop-lo-preserved
loop-lo-preserved c =
    turning_on c.requires.codes_len c.loop-lo.invariant c.loop-lo-test.true

pub shape_of-codes : goal.shape_of-codes
shape_of-codes c = c.loop-lo.invariant.codes-keep

pub shape_of-classes : goal.shape_of-classes
shape_of-classes c = c.loop-lo.invariant.classes-keep

pub returns : goal.returns
returns c = turning_ends c.requires.codes_len c.loop-lo.invariant c.loop-lo-test.false
