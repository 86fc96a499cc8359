-- `reading::read_single` meets its contract.
-- Assumes nothing.
use native.Mathlib.Omega.{arith}
use mathlib.Core.Path.{refl}
use Prim.Native.Nat.{◌+◌, ◌-◌, ◌*◌, ◌/◌, ◌≤◌}
use borrow.Author.Tests.{ltb-false}
use lib.Dec.{ltb}
use lib.ListN.{length}
use Rattle.laws.proofs.TestLaws.{neither}
use Rattle.reading.proofs.ReadLaws.{single-place, single-room, single-read}
use Rattle.reading.proofs.read_single.Goals as goal
use Rattle.reading.proofs.read_single.Goals.{Else-glyphs-n, Start}

-- the lookup is in the bytes
place : (s : Start) → 18 + 4 * ((length s.args.bytes.now - 18) / 4) ≤ length s.args.bytes.now
place s = single-place s.args.bytes.now s.args.glyphs.now s.args.substitutes.now s.requires _ refl

-- the columns have room
roomy : (e : Else-glyphs-n) → ((length e.args.bytes.now - 18) / 4 ≤ length e.args.glyphs.now) × ((length e.args.bytes.now - 18) / 4 ≤ length e.args.substitutes.now)
roomy e =
    let a = e.args in
    let n = (length a.bytes.now - 18) / 4 in
    let t = neither (ltb (length a.glyphs.now) n) (ltb (length a.substitutes.now) n) e.if-glyphs-n.false in
    (ltb-false (length a.glyphs.now) n t.0, ltb-false (length a.substitutes.now) n t.1)

pub overflow_sub-n : goal.overflow_sub-n
overflow_sub-n c = omega (arith, place (search))

pub returns-then-glyphs-n : goal.returns-then-glyphs-n
returns-then-glyphs-n c =
    let a = c.args in
    single-room a.bytes.now a.glyphs.now a.substitutes.now c.requires _ refl c.if-glyphs-n.true

pub get_words-requires : goal.get_words-requires
get_words-requires c =
    (omega (arith, place (search)), (roomy (goal.at.get_words-requires c).Else-glyphs-n).0)

pub get_words-requires-2 : goal.get_words-requires-2
get_words-requires-2 c =
    (omega (arith, place (search)), (roomy (goal.at.get_words-requires-2 c).Else-glyphs-n).1)

pub u16_at-flags-requires : goal.u16_at-flags-requires
u16_at-flags-requires c =
    omega (arith, place (search))

pub returns : goal.returns
returns c =
    let a = c.args in
    single-read a.bytes.now a.glyphs.now a.substitutes.now c.requires _ refl c.if-glyphs-n.false _ c.u16_at-flags.ensures _ _ c.get_words.ensures c.get_words-2.ensures
