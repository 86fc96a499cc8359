-- `replays::turn` is safe: a case is what the replay answered of the bytes that were read.
-- Assumes nothing.
use mathlib.Core.Path.{refl}
use Rattle.std.proofs.lemmas.Fn.{says_at}
use Rattle.replays.proofs.turn.Goals as goal

pub returns-in-Body : goal.returns-in-Body
returns-in-Body g c = λ case. (c.front.result.now, says_at g.F.Fn c.replay.ensures refl)
