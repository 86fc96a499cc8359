-- `blocks::bring_many` meets its contract: two parts are turned round, and then both.
-- Assumes nothing.
use mathlib.Core.Path.{◌≡◌, sym, ◌∙◌}
use Prim.Native.Nat.{◌≤◌}
use native.Mathlib.Omega.{arith}
use lib.ListN.{length, take}
use lib.Seq.{length-take-le}
use Rattle.blocks.proofs.BlockLaws.{brought-forward}
use Rattle.blocks.proofs.bring_many.Goals as goal

pub slice_bounds-turn-end-2 : goal.slice_bounds-turn-end-2
slice_bounds-turn-end-2 c = sym (length-take-le _ _ c.requires.n_in_bounds)

pub slice_bounds-turn-end-4 : goal.slice_bounds-turn-end-4
slice_bounds-turn-end-4 c =
    sym (length-take-le _ _ (omega (arith, c.requires.codes_len, c.requires.n_in_bounds)))

pub turn-requires : goal.turn-requires
turn-requires c =
    let codes = length-take-le c.args.n c.args.codes.now c.requires.n_in_bounds in
    let classes : length (take c.args.n c.args.classes.now) ≡ c.args.n = length-take-le _ _ (omega (arith, c.requires.codes_len, c.requires.n_in_bounds)) in
    record { codes_len = codes ∙ sym classes; a_in_bounds = rw codes c.requires.a_le_n }

pub returns : goal.returns
returns c =
    let first = c.turn in
    let fits : c.args.n ≤ length c.args.classes.now = omega (arith, c.requires.codes_len, c.requires.n_in_bounds) in
    c.turn-3.ensures
    ∙ brought-forward c.args.codes.now c.args.classes.now c.args.a c.args.n c.requires.codes_len c.requires.a_le_n c.requires.n_in_bounds first.new.codes first.new.classes (first.auto.codes ∙ length-take-le _ _ c.requires.n_in_bounds ∙ sym (first.auto.classes ∙ length-take-le _ _ fits)) first.ensures _ c.turn-2.ensures
