-- `coded::typed` meets its contract: the front of the room has a place for each code.
-- Assumes nothing.
use mathlib.Core.Path.{sym}
use lib.ListN.{length}
use lib.Seq.{length-take-le}
use Rattle.coded.proofs.typed.Goals as goal

pub slice_bounds-types-end : goal.slice_bounds-types-end
slice_bounds-types-end c =
    let a = c.args in
    sym (length-take-le (length a.codes.now) a.room.now c.requires)

pub types_of-requires : goal.types_of-requires
types_of-requires c =
    let a = c.args in
    sym (length-take-le (length a.codes.now) a.room.now c.requires)
