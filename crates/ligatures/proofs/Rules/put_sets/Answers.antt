-- `ligatures::Rules::put_sets` meets its contract: what is written, with the offsets, leaders and sets to come, is the whole.
-- Assumes nothing.
use mathlib.Core.List.{[], ◌∷◌}
use Prim.Native.Nat.{◌-◌}
use native.Mathlib.Omega.{arith}
use Rattle.layouts.specs.Tables.{set_words}
use Rattle.ligatures.specs.Places.{part}
use Rattle.ligatures.proofs.ApartLaws.{room-first, room_third}
use Rattle.ligatures.proofs.TurnLaws.{sets-begin, set_next, set_turn, sets_end, sets_same}
use Rattle.ligatures.proofs.Rules.put_sets.Goals as goal

pub loop-i-init : goal.loop-i-init
loop-i-init c = sets-begin c.requires

pub overflow_cast-set : goal.overflow_cast-set
overflow_cast-set c =
    omega (arith, (set_next c.loop-i.invariant c.args.self.shape c.set_end-e.ensures).small)

pub put_u16-offset-requires : goal.put_u16-offset-requires
put_u16-offset-requires c =
    room-first ((c.loop-i.set - 8) ∷ []) _ (set_next c.loop-i.invariant c.args.self.shape c.set_end-e.ensures).coming

pub put_set-set-requires : goal.put_set-set-requires
put_set-set-requires c =
    let found = c.set_end-e.ensures in
    let x = set_next c.loop-i.invariant c.args.self.shape found in (
      omega (arith, found.after),
      found.within,
      x.fine,
      omega (arith, c.put_u16-offset.ensures.same, c.put_u16-leader.ensures.same, room_third (set_words c.args.self.n (part c.args.self.n c.args.self.components.now c.args.self.ligatures.now c.loop-i.i c.set_end-e.result)) _ x.coming),
    )

pub loop-i-smaller : goal.loop-i-smaller
loop-i-smaller c =
    omega (arith, c.set_end-e.ensures.after, c.set_end-e.ensures.within)

pub loop-i-preserved : goal.loop-i-preserved
loop-i-preserved c =
    set_turn c.loop-i.invariant c.args.self.shape c.set_end-e.ensures c.put_u16-offset.ensures c.put_u16-leader.ensures c.put_set-set.ensures

pub shape_of-area : goal.shape_of-area
shape_of-area c =
    sets_same c.loop-i.invariant c.requires

pub returns : goal.returns
returns c =
    let r = sets_end c.loop-i.invariant c.loop-i-test.false in
    record { end = r.0; made = r.1 }
