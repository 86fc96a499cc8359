-- Letters as a call is lent them: `letters_lent`, their two columns as lists.
-- Assumes nothing.
use Rattle.lines.specs.declared.LentLetters.{LentLetters}
use Rattle.lines.specs.Held.{Letters, letters_of}

abbrev pub letters_lent : LentLetters → Letters
letters_lent letters = letters_of letters.types.now letters.categories.now
