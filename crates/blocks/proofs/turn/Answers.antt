-- `blocks::turn` meets its contract: of each column the part is turned round, and so of both.
-- Assumes nothing.
use Rattle.blocks.proofs.BlockLaws.{turned-marks}
use Rattle.blocks.proofs.turn.Goals as goal

pub returns : goal.returns
returns c =
    let a = c.args in
    turned-marks a.codes.now a.classes.now _ _ a.a c.requires.codes_len c.requires.a_in_bounds c.reverse.ensures.after c.reverse-2.ensures.after
