-- Rows as they are lent to be made a lookup: `rules_of` their rules in a font, in order; `entry_of` their entry.
-- Assumes nothing.
use Rattle.std.specs.Prelude.{cond, List, [], ◌∷◌, ℕ, eqb, length}
use Rattle.layouts.specs.declared.Kind.{Kind}
use Rattle.layouts.specs.Tables.{Rule}
use Rattle.layouts.specs.Lookups.{listed}
use Rattle.fonts.specs.Font.{Font}
use Rattle.synthesis.specs.declared.Rows.{Rows}
use Rattle.synthesis.specs.Lent.{rows_lent}
use Rattle.synthesis.specs.Rules.{kind_of, ruled, in_order}
use Rattle.drafts.specs.Entries.{Entry}

-- the rules of a lookup of these rows
abbrev pub rules_of : Font → Rows → List Rule
rules_of f r = in_order (ruled f (kind_of r.n) (rows_lent r))

-- their entry, whatever its mask: none where there is no rule
abbrev pub entry_of : ℕ → ℕ → Kind → List Rule → List Entry
entry_of mask flags kind rules = cond (eqb (length rules) 0) [] (record { mask = mask; lookup = listed flags kind rules } ∷ [])
