-- A held line and what it stands in: `Letters` the types of letters as they are lent; `Setting` all that a line is joined by; `Line` a line's columns; `letters_of`, `setting_of`, `frame_by`, `line_of`, `manner_of` these from lists;
-- `setting_now`, `line_now` from what a call is lent, as a `requires` has it; `setting_lent`, `line_lent` as an `ensures` has it;
-- `line_mut_now`, `line_mut_lent`, `line_all_mut_now`, `line_all_mut_lent` the same where a call may write columns (`&mut`).
-- Assumes nothing.
use Rattle.std.specs.Prelude.{Bool, List, ℕ}
use denote.Triple.Both.{Both}
use Rattle.lines.specs.declared.Frame.{Frame}
use Rattle.lines.specs.declared.Manner.{Manner}
use Rattle.laws.specs.Lent.{Slice, Borrowed, SliceMut, BorrowedMut}

-- letters, by a column of types and its column of categories
pub record Letters : Type 0 where
  pub types : List ℕ
  pub categories : List ℕ

-- the contexts before and behind a line, each with its nearest letter first; the seven feature masks; whether the line is Mongolian
pub record Setting : Type 0 where
  pub pre : Letters
  pub post : Letters
  pub features : List ℕ
  pub mongolian : Bool

-- a line's columns: codes, letters, base masks, actions, masks
pub record Line : Type 0 where
  pub codes : List ℕ
  pub letters : Letters
  pub base : List ℕ
  pub actions : List ℕ
  pub masks : List ℕ

abbrev pub letters_of : List ℕ → List ℕ → Letters
letters_of types categories = record { types = types; categories = categories }

abbrev pub setting_of : List ℕ → List ℕ → List ℕ → List ℕ → List ℕ → Bool → Setting
setting_of pre_types pre_categories post_types post_categories features mongolian =
    record { pre = letters_of pre_types pre_categories; post = letters_of post_types post_categories; features = features; mongolian = mongolian }

-- what a setting comes to is the struct `Frame`
abbrev pub frame_by : ℕ → ℕ → List ℕ → Bool → Frame
frame_by before behind features mongolian = record { before = record { 0 = before }; behind = record { 0 = behind }; features = features; mongolian = mongolian }

abbrev pub line_of : List ℕ → List ℕ → List ℕ → List ℕ → List ℕ → List ℕ → Line
line_of codes types categories base actions masks =
    record { codes = codes; letters = letters_of types categories; base = base; actions = actions; masks = masks }

-- how a line is joined, apart from its letters, is the struct `Manner`
abbrev pub manner_of : List ℕ → Bool → Manner
manner_of features mongolian = record { features = features; mongolian = mongolian }

-- the same, from the parameters of a call
abbrev pub setting_now : Slice ℕ → Slice ℕ → Slice ℕ → Slice ℕ → Manner → Setting
setting_now pre_types pre_categories post_types post_categories manner =
    setting_of pre_types.now pre_categories.now post_types.now post_categories.now manner.features manner.mongolian

abbrev pub line_now : Slice ℕ → Slice ℕ → Slice ℕ → Slice ℕ → Slice ℕ → Slice ℕ → Line
line_now codes types categories base actions masks =
    line_of codes.now types.now categories.now base.now actions.now masks.now

-- contexts are lent to be read, so a setting is one at both moments; a line is the one lent, `.entry`, and the one that comes back, `.exit`
abbrev pub setting_lent : Borrowed ℕ → Borrowed ℕ → Borrowed ℕ → Borrowed ℕ → Manner → Setting
setting_lent pre_types pre_categories post_types post_categories =
    setting_now pre_types.entry pre_categories.entry post_types.entry post_categories.entry

abbrev pub line_lent : Borrowed ℕ → Borrowed ℕ → Borrowed ℕ → Borrowed ℕ → Borrowed ℕ → Borrowed ℕ → Both Line Line
line_lent codes types categories base actions masks =
    record {
      entry = line_now codes.entry types.entry categories.entry base.entry actions.entry masks.entry;
      exit = line_now codes.exit types.exit categories.exit base.exit actions.exit masks.exit;
    }

-- the line from the parameters of a call that may write its actions and masks, as joining does
abbrev pub line_mut_now : Slice ℕ → Slice ℕ → Slice ℕ → Slice ℕ → SliceMut ℕ → SliceMut ℕ → Line
line_mut_now codes types categories base actions masks =
    line_of codes.now types.now categories.now base.now actions.now masks.now

abbrev pub line_mut_lent : Borrowed ℕ → Borrowed ℕ → Borrowed ℕ → Borrowed ℕ → BorrowedMut ℕ → BorrowedMut ℕ → Both Line Line
line_mut_lent codes types categories base actions masks =
    record {
      entry = line_mut_now codes.entry types.entry categories.entry base.entry actions.entry masks.entry;
      exit = line_mut_now codes.exit types.exit categories.exit base.exit actions.exit masks.exit;
    }

-- and of one that may write its codes and letters as well, as replacing does
abbrev pub line_all_mut_now : SliceMut ℕ → SliceMut ℕ → SliceMut ℕ → Slice ℕ → SliceMut ℕ → SliceMut ℕ → Line
line_all_mut_now codes types categories base actions masks =
    line_of codes.now types.now categories.now base.now actions.now masks.now

abbrev pub line_all_mut_lent :
    BorrowedMut ℕ → BorrowedMut ℕ → BorrowedMut ℕ → Borrowed ℕ → BorrowedMut ℕ → BorrowedMut ℕ → Both Line Line
line_all_mut_lent codes types categories base actions masks =
    record {
      entry = line_all_mut_now codes.entry types.entry categories.entry base.entry actions.entry masks.entry;
      exit = line_all_mut_now codes.exit types.exit categories.exit base.exit actions.exit masks.exit;
    }
