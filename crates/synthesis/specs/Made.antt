-- What code makes of rows: `packed_in` the numbers in an answer; `row_of`, `pair` a row of a column, and one of a code and its form; `gives` the rule of a row as one number, if it gives one; `Collected` the rules of rows at the start of a column.
-- Assumes nothing.
use Rattle.std.specs.Prelude.{◌≡◌, List, [], ◌∷◌, ◌++◌, map, ℕ, Option, Some, None, length, take, drop}
use Rattle.layouts.specs.declared.Kind.{Kind}
use Rattle.layouts.specs.Tables.{Rule}
use Rattle.fonts.specs.Font.{Font}
use Rattle.packing.specs.Packed.{pack}
use Rattle.synthesis.specs.Rules.{ruled}

-- the rule that an answer holds, if it does
abbrev pub packed_in : Option ℕ → List ℕ
packed_in (Some x) = x ∷ []
packed_in None = []

-- the row whose n components begin at a place of a column
abbrev pub row_of : ℕ → List ℕ → ℕ → ℕ → Rule
row_of n components at ligature = record { components = take n (drop at components); ligature = ligature }

-- the row of a code and its form
abbrev pub pair : ℕ → ℕ → Rule
pair code form = record { components = code ∷ []; ligature = form }

-- the rule that a row gives, if it does
abbrev pub gives : Font → Kind → Rule → List ℕ
gives f kind row = map pack (ruled f kind (row ∷ []))

-- a column begins with so many rules, and is otherwise as it was
pub record Collected (rules : List Rule) (column : List ℕ) (made : ℕ) (after : List ℕ) : Type 0 where
  pub filled : after ≡ map pack rules ++ drop made column
  pub counted : made ≡ length rules
