-- `adding::synthesize_in` meets its contract.
-- Assumes nothing.
use Rattle.fonts.specs.Lent.{font_lent}
use Rattle.adding.proofs.PushedLaws.{rows-added}
use Rattle.adding.proofs.synthesize_in.Goals as goal
use Rattle.adding.proofs.synthesize_in.Goals.{After-order_rules-made}

pub returns : goal.returns
returns c =
    rows-added (font_lent c.args.font) c.args.rows c.args.rules.now c.order_rules-made.new.rules c.order_rules-made.result c.order_rules-made.ensures c.args.mask c.args.flags c.args.draft c.args.scratch.now c.if-made-eq0.false c.push_rules.result c.push_rules.new.scratch c.push_rules.ensures
