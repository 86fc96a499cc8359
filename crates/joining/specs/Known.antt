-- Letters that a function is lent: `known_types` the types that they have in the end.
-- Assumes nothing.
use Rattle.std.specs.Prelude.{List, ℕ}
use Rattle.shapes.specs.Joining.{line_types}
use Rattle.joining.specs.declared.known.KnownLetters.{KnownLetters}

abbrev pub known_types : KnownLetters → List ℕ
known_types letters = line_types letters.types.now letters.categories.now
