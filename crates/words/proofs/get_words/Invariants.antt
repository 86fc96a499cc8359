use mathlib.Core.Path.{◌≡◌}
use Rattle.laws.specs.Lists.{pasted}
use Rattle.words.specs.Words.{words_at}
use Rattle.words.proofs.get_words.Given as goal

abbrev pub invariant-loop-i : goal.invariant-loop-i
invariant-loop-i l = l.column ≡ pasted (words_at l.bytes l.at l.i) 0 l.initial.column
