-- The worked examples that document 01 marks with a star, in its order, as one list: `Example` an input of a call and what is printed for it; `Gives` that the call's statement
-- gives it; `Each` that all of a list do; `features`, `setting`, `named`, `lent`, `joins` an example of joining by its types; `examples` the list, `Starred` the promise; `unstarred`, `Unstarred` those of joining and replacing without a star.
-- Assumes nothing.
use Rattle.std.specs.Prelude.{◌≡◌, true, false, cond, List, [], ◌∷◌, map, ℕ, eqb, pos, negsuc}
use Rattle.refusals.specs.Left.{After}
use Rattle.letters.specs.Types.{U, L, R, D, Alaph, DalathRish, T}
use Rattle.letters.specs.Categories.{Cf, Lo, Mn, Zs}
use Rattle.letters.specs.Actions.{isol, fina, fin2, fin3, medi, med2, init, none, repeating}
use Rattle.lines.specs.Held.{Setting, Line, setting_of, line_of}
use Rattle.lines.specs.Joined.{join_after}
use Rattle.replacing.specs.Replaced.{Request, replace_after, request_of}
use Rattle.marks.specs.Passes.{Span, Over}
use Rattle.marks.specs.Reordered.{ReorderRequest, Columns, reorder_request, columns_of, reorder_outcome, reorder_after}
use Rattle.runs.specs.Records as line
use Rattle.stretching.specs.Stretching.{StretchRequest, stretch_after, stretch_outcome, stretch_request, stretched_limit}
use Rattle.layouts.specs.declared.Kind.TheVariants.{Single}
use Rattle.layouts.specs.Lookups.{Lookup, lookup_of}
use Rattle.layouts.specs.Written.{write_after, write_outcome}

-- joining: the setting, the line before and after; replacing: the request as well; reordering of marks: the request, the columns before, the ranges, and the columns after; stretching: the request, with the line,
-- the output before, how many records the answer says, and the output after; writing: the lookup, the area before, how many bytes the answer says, and the area after
pub data Example : Type 0 where
  Joins : (given : Setting) → (before after : Line) → Example
  Replaces : (given : Setting) → (asked : Request) → (before after : Line) → Example
  Reorders : (asked : ReorderRequest) → (before : Columns) → (ranges : List Span) → (after : Columns) → Example
  Stretches : (asked : StretchRequest) → (before : line.Columns) → (count : ℕ) → (after : line.Columns) → Example
  Writes : (asked : Lookup) → (before : List ℕ) → (count : ℕ) → (after : List ℕ) → Example

-- each is of the whole call, which accepts it
abbrev pub Gives : Example → Type 0
Gives (Joins given before after) = join_after given before ≡ After 0 after
Gives (Replaces given asked before after) = replace_after given asked before ≡ After 0 after
Gives (Reorders asked before ranges after) = reorder_after asked before ≡ After 0 (reorder_outcome ranges after)
Gives (Stretches asked before count after) = stretch_after stretched_limit asked before ≡ After 0 (stretch_outcome count after)
Gives (Writes asked before count after) = write_after asked before ≡ After 0 (write_outcome count after)

abbrev pub Each : List Example → Type 0
Each [] = Unit
Each (e ∷ es) = Gives e × Each es

-- seven feature masks, for isol, fina, fin2, fin3, medi, med2 and init: all unlike
abbrev pub features : List ℕ
features = 1 ∷ 2 ∷ 4 ∷ 8 ∷ 16 ∷ 32 ∷ 64 ∷ []

-- transparent letters are nonspacing marks, all others are letters of no case
abbrev pub named : List ℕ → List ℕ
named types = map (λ t. cond (eqb t T) Mn Lo) types

-- contexts of these types
abbrev pub setting : List ℕ → List ℕ → Setting
setting pre post = setting_of pre (named pre) post (named post) features false

-- a line of these types, all of one code and one base mask, 128, with these actions and masks
abbrev pub lent : List ℕ → List ℕ → List ℕ → Line
lent types actions masks = line_of (map (λ t. 0x0628) types) types (named types) (map (λ t. 128) types) actions masks

-- such a line, which has other actions and other masks before, between such contexts
abbrev pub joins : (pre line post actions masks : List ℕ) → Example
joins pre line post actions masks = Joins (setting pre post) (lent line (map (λ t. repeating) line) (map (λ t. 255) line)) (lent line actions masks)

abbrev pub examples : List Example
examples =
    -- D D D: init medi fina
    joins [] (D ∷ D ∷ D ∷ []) [] (init ∷ medi ∷ fina ∷ []) (192 ∷ 144 ∷ 130 ∷ []) ∷
    -- D L: isol isol
    joins [] (D ∷ L ∷ []) [] (isol ∷ isol ∷ []) (129 ∷ 129 ∷ []) ∷
    -- L R: init fina
    joins [] (L ∷ R ∷ []) [] (init ∷ fina ∷ []) (192 ∷ 130 ∷ []) ∷
    -- T T: none none
    joins [] (T ∷ T ∷ []) [] (none ∷ none ∷ []) (128 ∷ 128 ∷ []) ∷
    -- pre-context D, line R: fina
    joins (D ∷ []) (R ∷ []) [] (fina ∷ []) (130 ∷ []) ∷
    -- line D, post-context R: init
    joins [] (D ∷ []) (R ∷ []) (init ∷ []) (192 ∷ []) ∷
    -- pre-context D, empty line: nothing
    joins (D ∷ []) [] [] [] [] ∷
    -- R Alaph: isol fin2
    joins [] (R ∷ Alaph ∷ []) [] (isol ∷ fin2 ∷ []) (129 ∷ 132 ∷ []) ∷
    -- Dalath-Rish Alaph: isol fin3
    joins [] (DalathRish ∷ Alaph ∷ []) [] (isol ∷ fin3 ∷ []) (129 ∷ 136 ∷ []) ∷
    -- D Alaph R: init med2 isol
    joins [] (D ∷ Alaph ∷ R ∷ []) [] (init ∷ med2 ∷ isol ∷ []) (192 ∷ 160 ∷ 129 ∷ []) ∷
    -- R Alaph D: isol isol isol
    joins [] (R ∷ Alaph ∷ D ∷ []) [] (isol ∷ isol ∷ isol ∷ []) (129 ∷ 129 ∷ 129 ∷ []) ∷
    -- D Alaph L: init fina isol
    joins [] (D ∷ Alaph ∷ L ∷ []) [] (init ∷ fina ∷ isol ∷ []) (192 ∷ 130 ∷ 129 ∷ []) ∷
    -- codes 064E 0655 065F 0654, classes 30 220 220 230: 0655 0654 064E 065F; ranges 0 to 2, 1 to 4. The class numbers lent are 25 and 26
    Reorders
    (reorder_request 0 4 25 26)
    (columns_of (0x064E ∷ 0x0655 ∷ 0x065F ∷ 0x0654 ∷ []) (30 ∷ 220 ∷ 220 ∷ 230 ∷ []))
    (Over 0 2 ∷ Over 1 4 ∷ [])
    (columns_of (0x0655 ∷ 0x0654 ∷ 0x064E ∷ 0x065F ∷ []) (25 ∷ 26 ∷ 30 ∷ 220 ∷ [])) ∷
    -- right to left, Lo advance 10, repeating tile 4: four records, offsets of the last three -10 -7 -4. `negsuc n` is -(n + 1); the output has one place more, and numbers of its own, of which the last stay
    Stretches
    (stretch_request true true
    (line.columns
    (1 ∷ 2 ∷ [])
    (pos 10 ∷ pos 4 ∷ [])
    (Lo ∷ Cf ∷ [])
    (0 ∷ 0 ∷ [])
    (none ∷ repeating ∷ [])
    (pos 10 ∷ pos 4 ∷ [])
    (pos 0 ∷ pos 0 ∷ [])))
    (line.columns
    (99 ∷ 99 ∷ 99 ∷ 99 ∷ 99 ∷ [])
    (pos 99 ∷ pos 99 ∷ pos 99 ∷ pos 99 ∷ pos 99 ∷ [])
    (29 ∷ 29 ∷ 29 ∷ 29 ∷ 29 ∷ [])
    (1 ∷ 1 ∷ 1 ∷ 1 ∷ 1 ∷ [])
    (isol ∷ isol ∷ isol ∷ isol ∷ isol ∷ [])
    (pos 99 ∷ pos 99 ∷ pos 99 ∷ pos 99 ∷ pos 99 ∷ [])
    (pos 99 ∷ pos 99 ∷ pos 99 ∷ pos 99 ∷ pos 99 ∷ []))
    4
    (line.columns
    (1 ∷ 2 ∷ 2 ∷ 2 ∷ 99 ∷ [])
    (pos 10 ∷ pos 4 ∷ pos 4 ∷ pos 4 ∷ pos 99 ∷ [])
    (Lo ∷ Cf ∷ Cf ∷ Cf ∷ 29 ∷ [])
    (0 ∷ 0 ∷ 0 ∷ 0 ∷ 1 ∷ [])
    (none ∷ repeating ∷ repeating ∷ repeating ∷ isol ∷ [])
    (pos 10 ∷ pos 0 ∷ pos 0 ∷ pos 0 ∷ pos 99 ∷ [])
    (pos 0 ∷ negsuc 9 ∷ negsuc 6 ∷ negsuc 3 ∷ pos 99 ∷ [])) ∷
    -- tile 5: three records, offsets -5 0
    Stretches
    (stretch_request true true
    (line.columns
    (1 ∷ 2 ∷ [])
    (pos 10 ∷ pos 5 ∷ [])
    (Lo ∷ Cf ∷ [])
    (0 ∷ 0 ∷ [])
    (none ∷ repeating ∷ [])
    (pos 10 ∷ pos 5 ∷ [])
    (pos 0 ∷ pos 0 ∷ [])))
    (line.columns
    (99 ∷ 99 ∷ 99 ∷ 99 ∷ [])
    (pos 99 ∷ pos 99 ∷ pos 99 ∷ pos 99 ∷ [])
    (29 ∷ 29 ∷ 29 ∷ 29 ∷ [])
    (1 ∷ 1 ∷ 1 ∷ 1 ∷ [])
    (isol ∷ isol ∷ isol ∷ isol ∷ [])
    (pos 99 ∷ pos 99 ∷ pos 99 ∷ pos 99 ∷ [])
    (pos 99 ∷ pos 99 ∷ pos 99 ∷ pos 99 ∷ []))
    3
    (line.columns
    (1 ∷ 2 ∷ 2 ∷ 99 ∷ [])
    (pos 10 ∷ pos 5 ∷ pos 5 ∷ pos 99 ∷ [])
    (Lo ∷ Cf ∷ Cf ∷ 29 ∷ [])
    (0 ∷ 0 ∷ 0 ∷ 1 ∷ [])
    (none ∷ repeating ∷ repeating ∷ isol ∷ [])
    (pos 10 ∷ pos 0 ∷ pos 0 ∷ pos 99 ∷ [])
    (pos 0 ∷ negsuc 4 ∷ pos 0 ∷ pos 99 ∷ [])) ∷
    -- single (5, 7), flags 8: 0001 0008 0001 0008 0002 0008 0001 0007 0001 0001 0005. The area has two bytes more, which stay
    Writes
    (lookup_of 8 Single (5 ∷ []) (7 ∷ []))
    (99 ∷ 99 ∷ 99 ∷ 99 ∷ 99 ∷ 99 ∷ 99 ∷ 99 ∷ 99 ∷ 99 ∷ 99 ∷ 99 ∷ 99 ∷ 99 ∷ 99 ∷ 99 ∷ 99 ∷ 99 ∷ 99 ∷ 99 ∷ 99 ∷ 99 ∷ 99 ∷ 99 ∷ [])
    22
    (0 ∷ 1 ∷ 0 ∷ 8 ∷ 0 ∷ 1 ∷ 0 ∷ 8 ∷ 0 ∷ 2 ∷ 0 ∷ 8 ∷ 0 ∷ 1 ∷ 0 ∷ 7 ∷ 0 ∷ 1 ∷ 0 ∷ 1 ∷ 0 ∷ 5 ∷ 99 ∷ 99 ∷ []) ∷
    []

abbrev pub Starred : Type 0
Starred = Each examples

-- the two of joining and replacing that have no star
abbrev pub unstarred : List Example
unstarred =
    -- Mongolian D, 180B (T), 180E (U): isol isol none
    Joins
    (setting_of [] [] [] [] features true)
    (line_of (0x1820 ∷ 0x180B ∷ 0x180E ∷ []) (D ∷ T ∷ U ∷ []) (Lo ∷ Mn ∷ Cf ∷ []) (128 ∷ 128 ∷ 128 ∷ []) (medi ∷ medi ∷ medi ∷ []) (255 ∷ 255 ∷ 255 ∷ []))
    (line_of (0x1820 ∷ 0x180B ∷ 0x180E ∷ []) (D ∷ T ∷ U ∷ []) (Lo ∷ Mn ∷ Cf ∷ []) (128 ∷ 128 ∷ 128 ∷ []) (isol ∷ isol ∷ none ∷ []) (129 ∷ 129 ∷ 128 ∷ [])) ∷
    -- D D D, the middle replaced by U: isol none isol
    Replaces
    (setting [] [])
    (request_of 1 0x0020 U Zs)
    (lent (D ∷ D ∷ D ∷ []) (init ∷ medi ∷ fina ∷ []) (192 ∷ 144 ∷ 130 ∷ []))
    (line_of (0x0628 ∷ 0x0020 ∷ 0x0628 ∷ []) (D ∷ U ∷ D ∷ []) (Lo ∷ Zs ∷ Lo ∷ []) (128 ∷ 128 ∷ 128 ∷ []) (isol ∷ none ∷ isol ∷ []) (129 ∷ 128 ∷ 129 ∷ [])) ∷
    []

abbrev pub Unstarred : Type 0
Unstarred = Each unstarred
