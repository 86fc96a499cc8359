-- Runs and the words before them (document 01, "Stretching"), of records in the order of the work, in which the word follows its run: `acts`, `tile_action`, `is_tile` a record of a run; `word_categories`, `word_numbers`, `in_word` a record of a word;
-- `run`, `past_run`, `word` the run that a list begins with, all behind it, and its word; `is_plain`, `plain` a record of no run, and the records before the next run; `sum` a sum of 32 bits; `width_of` the width of tiles of an action;
-- `room`, `repeating_width`, `tiles` what the numbers of crate fitting are taken of; `copies_of`, `overlap_of`, `start_of` these numbers.
-- Assumes nothing.
use Rattle.std.specs.Prelude.{Bool, not, ◌&&◌, ◌||◌, List, [], ◌∷◌, map, ℕ, eqb, length, ℤ, pos}
use Rattle.laws.specs.Lists.{member, those, front, behind}
use Rattle.refusals.specs.Columns.{yes}
use Rattle.letters.specs.Actions.{fixed, repeating}
use Rattle.letters.specs.Categories.{Cn, Co, Lm, Lo, Mc, Me, Mn, Nd, Nl, No, Sc, Sk, Sm, So}
use Rattle.fitting.specs.Saturating.{sat_add_lem, sat_sub_lem}
use Rattle.fitting.specs.Fit.{copies, overlap, start}
use Rattle.runs.specs.Records.{Record}

-- a record of a given action
abbrev pub acts : ℕ → Record → Bool
acts action r = eqb r.action action

-- "actions 8 and 9"
unfoldable pub tile_action : ℕ → Bool
tile_action action = eqb action fixed || eqb action repeating

abbrev pub is_tile : Record → Bool
is_tile r = tile_action r.action

-- "Cn, Co, Lm, Lo, Mc, Me, Mn, Nd, Nl, No, Sc, Sk, Sm or So"
abbrev pub word_categories : List ℕ
word_categories = Cn ∷ Co ∷ Lm ∷ Lo ∷ Mc ∷ Me ∷ Mn ∷ Nd ∷ Nl ∷ No ∷ Sc ∷ Sk ∷ Sm ∷ So ∷ []

-- "records that are not 8 or 9 and are default-ignorable or of category .."
unfoldable pub word_numbers : ℕ → ℕ → ℕ → Bool
word_numbers action category ignorable = not (tile_action action) && (yes ignorable || member category word_categories)

abbrev pub in_word : Record → Bool
in_word r = word_numbers r.action r.category r.ignorable

-- "each longest run": the tiles up to the first record that is none
abbrev pub run : List Record → List Record
run l = front is_tile l

abbrev pub past_run : List Record → List Record
past_run l = behind is_tile l

-- a record of no run
abbrev pub is_plain : Record → Bool
is_plain r = not (is_tile r)

-- the records before the next run
abbrev pub plain : List Record → List Record
plain l = front is_plain l

-- "The word before a run goes back over records that .."
abbrev pub word : List Record → List Record
word l = front in_word (past_run l)

-- "All sums saturate in 32 bits, taken from the end backwards": in the order of the work
unfoldable pub sum : ℤ → List ℤ → ℤ
sum s [] = s
sum s (x ∷ xs) = sum (sat_add_lem s x) xs

-- the widths of the tiles of an action together
abbrev pub width_of : ℕ → List Record → ℤ
width_of action l = sum (pos 0) (map (λ (r : Record). r.width) (those (acts action) (run l)))

-- "Room is the word's advances less the fixed widths"
unfoldable pub room : List Record → ℤ
room l = sat_sub_lem (sum (pos 0) (map (λ (r : Record). r.advance) (word l))) (width_of fixed l)

-- "the repeating width w"
unfoldable pub repeating_width : List Record → ℤ
repeating_width l = width_of repeating l

-- "the run has tiles, meaning repeating ones"
unfoldable pub tiles : List Record → ℕ
tiles l = length (those (acts repeating) (run l))

-- the numbers of the run that a list begins with
abbrev pub copies_of : List Record → ℕ
copies_of l = copies (room l) (repeating_width l) (tiles l)

abbrev pub overlap_of : List Record → ℤ
overlap_of l = overlap (room l) (repeating_width l) (tiles l)

abbrev pub start_of : List Record → ℤ
start_of l = start (room l) (repeating_width l) (tiles l)
