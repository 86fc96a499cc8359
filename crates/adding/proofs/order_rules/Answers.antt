-- `adding::order_rules` meets its contract: rules are collected, and put into order where they stand.
-- Assumes nothing.
use Prim.Native.Nat.{◌≤◌}
use native.Mathlib.Omega.{arith}
use lib.ListN.{length}
use lib.Seq.{length-take-le}
use Rattle.fonts.specs.Lent.{font_lent}
use Rattle.adding.proofs.OrderedLaws.{few-rules, ordered_collected}
use Rattle.adding.proofs.order_rules.Goals as goal
use Rattle.adding.proofs.order_rules.Goals.{After-collect-made}

-- no more rules than rows, so they are in what is lent
few : (k : After-collect-made) → k.collect-made.result ≤ k.args.rows.count
few k = omega (arith, k.collect-made.ensures.counted, few-rules (font_lent k.args.font) k.args.rows)

in_rules : (k : After-collect-made) → k.collect-made.result ≤ length k.collect-made.new.rules
in_rules k = omega (arith, few k, k.collect-made.auto.rules, k.requires.1)

pub sort-requires : goal.sort-requires
sort-requires c =
    let n = length-take-le c.collect-made.result c.collect-made.new.rules (in_rules (goal.at.sort-requires c).After-collect-made) in
    omega (arith, n, few (goal.at.sort-requires c).After-collect-made, c.requires.0)

pub returns : goal.returns
returns c =
    ordered_collected (font_lent c.args.font) c.args.rows c.args.rules.now c.collect-made.new.rules c.collect-made.result c.collect-made.ensures c.sort.new.rules c.sort.ensures
