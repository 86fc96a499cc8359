-- `replacing::refused` meets its contract: the rows of joining, with those that replacing adds.
-- Assumes nothing.
use mathlib.Core.Path.{◌≡◌, refl}
use mathlib.Core.Bool.{Bool, ◌||◌}
use mathlib.Core.List.{[], ◌∷◌}
use Rattle.laws.specs.Rows.{Given, first, sooner}
use Rattle.laws.proofs.RowLaws.{sooner-first}
use Rattle.lines.specs.Held.{letters_of, line_of}
use Rattle.lines.specs.Joined.{even_line_lem, uneven, too_long, strange}
use Rattle.replacing.specs.Replaced.{asked, strange_request, outside}
use Rattle.replacing.proofs.refused.Goals as goal

table :
    (a b c d e : Bool)
    → sooner (first (Given 1 a ∷ Given 2 b ∷ Given 3 c ∷ [])) (sooner (first (Given 3 d ∷ [])) (first (Given 4 e ∷ [])))
    ≡ first (Given 1 a ∷ Given 2 b ∷ Given 3 (c || d) ∷ Given 4 e ∷ [])
table a b c d e =
    rw (sooner-first (Given 3 d ∷ []) (Given 4 e ∷ []) refl refl)
    (sooner-first (Given 1 a ∷ Given 2 b ∷ Given 3 c ∷ []) (Given 3 d ∷ Given 4 e ∷ []) refl refl)

pub returns : goal.returns
returns c =
    let a = c.args in
    let line = line_of a.codes.now a.types.now a.categories.now a.base.now a.actions.now a.masks.now in
    let request = asked a.request in
    let pre = letters_of a.pre_types.now a.pre_categories.now in
    let post = letters_of a.post_types.now a.post_categories.now in
    rw
    (c.sooner-2.ensures, c.sooner.ensures, c.unless-outside.ensures, c.unless-strange.ensures, c.within.ensures, c.refused-line.ensures, c.even_line-line_even.ensures)
    (table (uneven (even_line_lem line) pre post) (too_long line.letters pre post) (strange line.letters pre post) (strange_request request line) (outside request line))
