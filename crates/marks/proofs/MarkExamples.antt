-- Marks of small lines reordered, computed: what the words of document 01 leave open, as the Rust has it, and a part whose classes fall.
-- Assumes nothing.
use mathlib.Core.Path.{◌≡◌, refl}
use mathlib.Core.List.{List, [], ◌∷◌}
use Rattle.refusals.specs.Left.{After}
use Rattle.blocks.specs.Marks.{codes_of}
use Rattle.marks.specs.Modifiers.{modifier}
use Rattle.marks.specs.Passes.{Span, Over, smaller, moves, passes, ranges}
use Rattle.marks.specs.Reordered.{ReorderRequest, Columns, reorder_request, columns_of, reorder_outcome, line, reorder_refusal, reorder_after}
use Rattle.marks.specs.Utr53.{utr53}

-- a request is accepted, and gives ranges and columns
abbrev Gives : ReorderRequest → Columns → List Span → Columns → Type 0
Gives q c ranges d = reorder_after q c ≡ After 0 (reorder_outcome ranges d)

-- a block is an unbroken run: the second 0655, behind a mark that is no modifier, stays
pub unbroken :
    Gives
    (reorder_request 0 4 25 26)
    (columns_of (0x064E ∷ 0x0655 ∷ 0x065F ∷ 0x0655 ∷ []) (30 ∷ 220 ∷ 220 ∷ 220 ∷ []))
    (Over 0 2 ∷ [])
    (columns_of (0x0655 ∷ 0x064E ∷ 0x065F ∷ 0x0655 ∷ []) (25 ∷ 30 ∷ 220 ∷ 220 ∷ []))
unfolding modifier smaller moves passes ranges reorder_refusal
unbroken = refl

-- a block has a range also where nothing moves, and of one mark
pub alone : Gives (reorder_request 0 1 25 26) (columns_of (0x0655 ∷ []) (220 ∷ [])) (Over 0 1 ∷ []) (columns_of (0x0655 ∷ []) (25 ∷ []))
unfolding modifier smaller moves passes ranges reorder_refusal
alone = refl

-- where there is no block there is none
pub no_block : Gives (reorder_request 0 1 25 26) (columns_of (0x064E ∷ []) (30 ∷ [])) [] (columns_of (0x064E ∷ []) (30 ∷ []))
unfolding modifier smaller moves passes ranges reorder_refusal
no_block = refl

-- the places of a range are those of the line
pub middle :
    Gives
    (reorder_request 1 3 25 26)
    (columns_of (0x0628 ∷ 0x064E ∷ 0x0655 ∷ 0x0627 ∷ []) (0 ∷ 30 ∷ 220 ∷ 0 ∷ []))
    (Over 1 3 ∷ [])
    (columns_of (0x0628 ∷ 0x0655 ∷ 0x064E ∷ 0x0627 ∷ []) (0 ∷ 25 ∷ 30 ∷ 0 ∷ []))
unfolding modifier smaller moves passes ranges reorder_refusal
middle = refl

-- classes that fall: the pass for 220 ends at the larger class before it
pub falling :
    Gives
    (reorder_request 0 2 25 26)
    (columns_of (0x0654 ∷ 0x0655 ∷ []) (230 ∷ 220 ∷ []))
    (Over 0 1 ∷ [])
    (columns_of (0x0654 ∷ 0x0655 ∷ []) (26 ∷ 220 ∷ []))
unfolding modifier smaller moves passes ranges reorder_refusal
falling = refl

-- UTR's steps on the same marks as they stand, which it does not speak of, would put 0655 first
pub falling-steps : codes_of (utr53 (line (columns_of (0x0654 ∷ 0x0655 ∷ []) (230 ∷ 220 ∷ [])))) ≡ 0x0655 ∷ 0x0654 ∷ []
unfolding modifier
falling-steps = refl
