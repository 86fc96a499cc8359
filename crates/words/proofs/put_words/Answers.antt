-- `words::put_words` meets its contract: of the words that are still to come, the whole is made.
-- Assumes nothing.
use mathlib.Core.Path.{◌≡◌}
use mathlib.Core.List.{[]}
use Prim.Native.Nat.{◌*◌, ◌/◌}
use native.Mathlib.Omega.{arith}
use lib.ListN.{length, get_or, take, drop}
use Rattle.words.proofs.WroteLaws.{next-eight, eight_at}
use Rattle.words.proofs.put_words.Goals as goal

pub loop-eight-preserved : goal.loop-eight-preserved
loop-eight-preserved c =
    let l = c.loop-eight in
    let ws = c.args.words.now in
    let cut = c.as_chunks.ensures in
    let here : get_or c.as_chunks.result.0.now l.eight-index [] ≡ take 8 (drop (8 * l.eight-index) ws) =
    rw cut.front (eight_at ws (length ws / 8) l.eight-index (omega (arith, c.loop-eight-test.true, cut.front_len))) in
    next-eight ws l.eight-index l.invariant (rw here at c.put_eight-p.ensures)
