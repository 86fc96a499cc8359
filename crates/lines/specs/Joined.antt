-- Joining a line (document 01, "Joining"): `types_of`, `frame_of`, `actions_between`, `fresh_actions`, `fresh_line`, `joined_line` what joining gives; `sized`, `even_letters`, `even_line_lem`,
-- `limited`, `known_letters_lem` what is asked of a line and its contexts; `context_limit` how long a context may be; `uneven`, `too_long`, `strange`, `refusal_rows`,
-- `join_rows`, `refusal` when joining is refused, and with which number; `join_after`, `Joining` what the call answers and leaves, of every input.
-- Assumes nothing.
use Rattle.std.specs.Prelude.{◌≡◌, Bool, cond, not, ◌&&◌, List, [], ◌∷◌, ℕ, eqb, leb, length}
use Rattle.laws.specs.Rows.{Row, Given, first}
use Rattle.refusals.specs.Numbers.{said, Verdict}
use Rattle.refusals.specs.Columns.{line_limit, at_most}
use Rattle.refusals.specs.Left.{Left, After, leaves}
use Rattle.letters.specs.Types.{U, X}
use Rattle.letters.specs.Categories.{Zs}
use Rattle.shapes.specs.Joining.{form, nearest, each_between, line_types}
use Rattle.selectors.specs.Selectors.{settled}
use Rattle.masks.specs.Masks.{masks}
use Rattle.lines.specs.declared.Frame.{Frame}
use Rattle.lines.specs.Held.{Letters, Setting, Line, frame_by}

-- the types that letters have in the end
abbrev pub types_of : Letters → List ℕ
types_of letters = line_types letters.types letters.categories

-- next to a line stands the nearest letter of each context that is not transparent; where there is none, U stands for it
abbrev pub frame_of : Setting → Frame
frame_of s = frame_by (nearest (types_of s.pre) U) (nearest (types_of s.post) U) s.features s.mongolian

-- the actions of letters between two others; in a Mongolian line the selectors are settled afterwards
abbrev pub actions_between : Bool → List ℕ → ℕ → List ℕ → ℕ → List ℕ
actions_between mongolian codes before ts behind =
    let joined = each_between form before ts behind in
    cond mongolian (settled codes joined) joined

-- the actions of a line in its frame
abbrev pub fresh_actions : Frame → Line → List ℕ
fresh_actions f l = actions_between f.mongolian l.codes f.before.0 (types_of l.letters) f.behind.0

-- the line with these actions and their masks. The actions and masks that it had count for nothing
abbrev pub fresh_line : Frame → Line → Line
fresh_line f l =
    record {
      codes = l.codes;
      letters = l.letters;
      base = l.base;
      actions = fresh_actions f l;
      masks = masks f.features l.base (fresh_actions f l);
    }

abbrev pub joined_line : Setting → Line → Line
joined_line s = fresh_line (frame_of s)

-- a column has n records
abbrev pub sized : ℕ → List ℕ → Bool
sized n column = eqb n (length column)

-- as many types as categories
abbrev pub even_letters : Letters → Bool
even_letters letters = sized (length letters.types) letters.categories

-- all columns of a line are of one length
abbrev pub even_line_lem : Line → Bool
even_line_lem l =
    let n = length l.letters.types in
    even_letters l.letters && (sized n l.codes && (sized n l.base && (sized n l.actions && sized n l.masks)))

-- at most so many letters
abbrev pub limited : ℕ → Letters → Bool
limited most letters = leb (length letters.types) most

-- each type is one of the eight, each category one of the thirty
abbrev pub known_letters_lem : Letters → Bool
known_letters_lem letters = at_most X letters.types && at_most Zs letters.categories

-- "a context over 64"
abbrev pub context_limit : ℕ
context_limit = 64

-- the rows of document 01's table that joining uses, for a line of which it is known whether its columns are even, and its contexts
abbrev pub uneven : Bool → Letters → Letters → Bool
uneven line_even pre post = not (line_even && (even_letters pre && even_letters post))

abbrev pub too_long : Letters → Letters → Letters → Bool
too_long letters pre post = not (limited line_limit letters && (limited context_limit pre && limited context_limit post))

abbrev pub strange : Letters → Letters → Letters → Bool
strange letters pre post = not (known_letters_lem letters && (known_letters_lem pre && known_letters_lem post))

abbrev pub refusal_rows : Bool → Letters → Letters → Letters → List Row
refusal_rows line_even letters pre post =
    Given 1 (uneven line_even pre post) ∷
    Given 2 (too_long letters pre post) ∷
    Given 3 (strange letters pre post) ∷
    []

-- the rows of a line in its setting, and the number that joining is refused with, 0 if it is not
abbrev pub join_rows : Setting → Line → List Row
join_rows s l = refusal_rows (even_line_lem l) l.letters s.pre s.post

unfoldable pub refusal : Setting → Line → ℕ
refusal s l = first (join_rows s l)

-- the call: a refusal gives its number and leaves the line as it was
abbrev pub join_after : Setting → Line → Left Line
join_after s l = leaves (refusal s l) l (joined_line s l)

-- the statement of `join_line`: in the setting s, on the line l, it may answer r and leave the line m
abbrev pub Joining : Setting → Line → Verdict → Line → Type 0
Joining s l r m = After (said r) m ≡ join_after s l
