-- `grouping::Ligatures::is_size` meets its contract.
-- Assumes nothing.
use mathlib.Core.Path.{sym}
use Rattle.grouping.proofs.StartLaws.{size_small, size_is}
use Rattle.grouping.proofs.Ligatures.is_size.Goals as goal

pub returns-then-size-lt2 : goal.returns-then-size-lt2
returns-then-size-lt2 c = sym (size_small c.args.self.n c.args.size c.if-size-lt2.true)

pub returns : goal.returns
returns c = size_is c.args.self.n c.args.size c.requires
