use Prim.Native.Nat.{◌*◌}
use lib.ListN.{drop}
use Rattle.words.specs.Words.{Wrote}
use Rattle.words.proofs.put_words.Given as goal

abbrev pub invariant-loop-eight : goal.invariant-loop-eight
invariant-loop-eight l = Wrote l.initial.area l.at l.words l.area l.p (drop (8 * l.eight-index) l.words)
