-- Of the masks lent (document 01's order: init, medi, fina, isol, rlig) those that are asked for by name: `init_of`, `medi_of`, `fina_of`, `rlig_of`; and the flag of a lookup that passes over marks: `ignore_marks`.
-- Assumes nothing.
use Rattle.std.specs.Prelude.{List, ℕ, get_or}

abbrev pub init_of : List ℕ → ℕ
init_of masks = get_or masks 0 0

abbrev pub medi_of : List ℕ → ℕ
medi_of masks = get_or masks 1 0

abbrev pub fina_of : List ℕ → ℕ
fina_of masks = get_or masks 2 0

abbrev pub rlig_of : List ℕ → ℕ
rlig_of masks = get_or masks 4 0

-- OpenType's IGNORE_MARKS
abbrev pub ignore_marks : ℕ
ignore_marks = 8
