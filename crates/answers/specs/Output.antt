-- What document 01's program `joinline` prints of a text, from its first byte to its last: "A line of other form prints `unreadable`; else over 512 lines
-- print `refused 2`; else another refusal likewise, each alone. Empty input prints the heading."
--   limit       the lines of a text at most
--   longest     the bytes that are printed at most
--   line_text    what is printed of a line in columns
--   entry_text   what is printed of entries
--   output      what is printed of a text
--   room        how many records columns hold
--   lines_text, answer_text   what is printed of columns that a text was read into
--   Even        columns that can be joined
-- Assumes nothing.
use Rattle.std.specs.Prelude.{ℕ, ◌≤◌, min, ◌≡◌, cond, List, [], leb, length, take, Option, None, Some}
use Rattle.entries.specs.declared.Entry.{Entry}
use Rattle.texts.specs.Form.{codes_of, widths_of, kinds_of, categories_of, lines, readable, entries}
use Rattle.shapes.specs.Joining.{line_types, actions_of}
use Rattle.lines.specs.Held.{letters_of}
use Rattle.lines.specs.Joined.{known_letters_lem}
use Rattle.printing.specs.Printed.{printed, unreadable_text, refused_text}

-- "over 512 lines".
abbrev pub limit : ℕ
limit = 512

-- Memory that always has room for what is printed: the heading, and 512 rows of at most 16 bytes.
abbrev pub longest : ℕ
longest = 8208

-- What is printed of a line in columns of codes, of how many digits each was typed with, of types and of categories: refusal 3 where a type or a category is
-- none, else its rows. It is joined without contexts, and is not Mongolian.
unfoldable pub line_text : List ℕ → List ℕ → List ℕ → List ℕ → List ℕ
line_text codes widths types categories =
    cond (known_letters_lem (letters_of types categories)) (printed codes widths (actions_of [] (line_types types categories) [])) (refused_text 3)

-- What is printed of entries.
abbrev pub entry_text : List Entry → List ℕ
entry_text es =
    line_text (codes_of es) (widths_of es) (kinds_of es) (categories_of es)

-- What is printed of a text.
unfoldable pub output : List ℕ → List ℕ
output text = cond (readable (lines text)) (cond (leb (length (lines text)) limit) (entry_text (entries (lines text))) (refused_text 2)) unreadable_text

-- How many records the columns hold: the limit, or fewer where a column is shorter.
abbrev pub room : List ℕ → List ℕ → List ℕ → List ℕ → ℕ
room codes widths types categories = min limit (min (min (length codes) (length widths)) (min (length types) (length categories)))

-- What is printed of columns that a text was read into, with n lines: refusal 2 where they do not hold so many.
unfoldable pub lines_text : ℕ → List ℕ → List ℕ → List ℕ → List ℕ → List ℕ
lines_text n codes widths types categories =
    cond (leb n (room codes widths types categories)) (line_text (take n codes) (take n widths) (take n types) (take n categories)) (refused_text 2)

-- What is printed where a text came to this.
abbrev pub answer_text : Option ℕ → List ℕ → List ℕ → List ℕ → List ℕ → List ℕ
answer_text None codes widths types categories = unreadable_text
answer_text (Some n) codes widths types categories = lines_text n codes widths types categories

-- Columns of n records each, and no more than the limit: what joining is lent.
pub record Even (n : ℕ) (codes categories base actions masks : List ℕ) : Type 0 where
  pub few : n ≤ limit
  pub code : n ≡ length codes
  pub category : n ≡ length categories
  pub bases : n ≡ length base
  pub action : n ≡ length actions
  pub mask : n ≡ length masks
