-- Lines that are held by codes and categories alone (document 02, A1): no type is lent, for the line, its contexts or a new letter. `CodedLetters`, `CodedSetting`, `CodedLine`, `CodedRequest` what is lent and asked for; `coded_letters_of`, `coded_line_of`, `coded_request_of`,
-- `asked_for` these from lists and numbers; `typed_letters`, `typed_setting`, `typed_line`, `typed_request` the same with the types that Unicode lists; `join_codes_after`, `replace_codes_after`, `JoiningCodes`, `ReplacingCodes` the calls: joining and replacing themselves, of these;
-- `length_rows` the refusals that go by lengths alone; `coded_setting_now`, `coded_line_now`, `coded_setting_lent`, `coded_line_lent` from what a call is lent;
-- `coded_line_mut_now`, `coded_line_mut_lent`, `coded_line_all_mut_now`, `coded_line_all_mut_lent` the same where a call may write columns (`&mut`).
-- Assumes nothing.
use Rattle.std.specs.Prelude.{◌≡◌, Bool, not, ◌&&◌, List, [], ◌∷◌, map, ℕ, eqb, leb}
use denote.Triple.Both.{Both}
use Rattle.laws.specs.Rows.{Row, Given}
use Rattle.laws.specs.Lent.{Slice, Borrowed, SliceMut, BorrowedMut}
use Rattle.refusals.specs.Numbers.{said, Verdict}
use Rattle.refusals.specs.Columns.{line_limit}
use Rattle.refusals.specs.Left.{Left, After}
use Rattle.listed.specs.Rows.{type_in}
use Rattle.listed.specs.Listed.{listed}
use Rattle.lines.specs.declared.Manner.{Manner}
use Rattle.lines.specs.Held.{Letters, Setting, Line, letters_of}
use Rattle.lines.specs.Joined.{context_limit, join_after}
use Rattle.replacing.specs.Replaced.{Request, request_of, replace_after}
use Rattle.coded.specs.declared.CodeRequest.{CodeRequest}

-- letters, by a column of codes and its column of categories
pub record CodedLetters : Type 0 where
  pub codes : List ℕ
  pub categories : List ℕ

-- the contexts before and behind a line, each with its nearest letter first; the seven feature masks; whether the line is Mongolian
pub record CodedSetting : Type 0 where
  pub pre : CodedLetters
  pub post : CodedLetters
  pub features : List ℕ
  pub mongolian : Bool

-- a line's columns: letters, base masks, actions, masks
pub record CodedLine : Type 0 where
  pub letters : CodedLetters
  pub base : List ℕ
  pub actions : List ℕ
  pub masks : List ℕ

-- a place, and the letter that comes to stand there
pub record CodedRequest : Type 0 where
  pub place : ℕ
  pub code : ℕ
  pub category : ℕ

-- each letter has the type that Unicode lists for its code: X, if it lists none
abbrev pub typed_letters : CodedLetters → Letters
typed_letters l = letters_of (map (type_in listed) l.codes) l.categories

abbrev pub typed_setting : CodedSetting → Setting
typed_setting s = record { pre = typed_letters s.pre; post = typed_letters s.post; features = s.features; mongolian = s.mongolian }

abbrev pub typed_line : CodedLine → Line
typed_line l = record { codes = l.letters.codes; letters = typed_letters l.letters; base = l.base; actions = l.actions; masks = l.masks }

abbrev pub typed_request : CodedRequest → Request
typed_request q = request_of q.place q.code (type_in listed q.code) q.category

-- what the calls answer and leave, of every input: joining and replacing themselves, of these types
abbrev pub join_codes_after : CodedSetting → CodedLine → Left Line
join_codes_after s l = join_after (typed_setting s) (typed_line l)

abbrev pub replace_codes_after : CodedSetting → CodedRequest → CodedLine → Left Line
replace_codes_after s q l = replace_after (typed_setting s) (typed_request q) (typed_line l)

-- the statement of `join_codes`: in the setting s, on the line l, it may answer r and leave the line m
abbrev pub JoiningCodes : CodedSetting → CodedLine → Verdict → CodedLine → Type 0
JoiningCodes s l r m = After (said r) (typed_line m) ≡ join_codes_after s l

-- the statement of `replace_code`, asked for q. The line that it leaves has the types of its own codes
abbrev pub ReplacingCodes : CodedSetting → CodedRequest → CodedLine → Verdict → CodedLine → Type 0
ReplacingCodes s q l r m = After (said r) (typed_line m) ≡ replace_codes_after s q l

-- the rows of joining and replacing that ask for lengths, by the lengths of a line's columns and of its contexts'
abbrev pub length_rows : (codes categories base actions masks pre_codes pre_categories post_codes post_categories : ℕ) → List Row
length_rows codes categories base actions masks pre_codes pre_categories post_codes post_categories =
    let even = eqb codes categories && (eqb codes base && (eqb codes actions && eqb codes masks)) in
    Given 1 (not (even && (eqb pre_codes pre_categories && eqb post_codes post_categories))) ∷
    Given 2 (not (leb codes line_limit && (leb pre_codes context_limit && leb post_codes context_limit))) ∷
    []

-- from lists and numbers
abbrev pub coded_letters_of : List ℕ → List ℕ → CodedLetters
coded_letters_of codes categories = record { codes = codes; categories = categories }

abbrev pub coded_line_of : List ℕ → List ℕ → List ℕ → List ℕ → List ℕ → CodedLine
coded_line_of codes categories base actions masks =
    record { letters = coded_letters_of codes categories; base = base; actions = actions; masks = masks }

abbrev pub coded_request_of : ℕ → ℕ → ℕ → CodedRequest
coded_request_of place code category = record { place = place; code = code; category = category }

-- from the parameters of a call
abbrev pub asked_for : CodeRequest → CodedRequest
asked_for q = coded_request_of q.place q.code.0 q.category.0

abbrev pub coded_setting_now : Slice ℕ → Slice ℕ → Slice ℕ → Slice ℕ → Manner → CodedSetting
coded_setting_now pre_codes pre_categories post_codes post_categories manner =
    record {
      pre = coded_letters_of pre_codes.now pre_categories.now;
      post = coded_letters_of post_codes.now post_categories.now;
      features = manner.features;
      mongolian = manner.mongolian;
    }

abbrev pub coded_line_now : Slice ℕ → Slice ℕ → Slice ℕ → Slice ℕ → Slice ℕ → CodedLine
coded_line_now codes categories base actions masks = coded_line_of codes.now categories.now base.now actions.now masks.now

-- contexts are lent to be read; a line is the one lent, `.entry`, and the one that comes back, `.exit`
abbrev pub coded_setting_lent : Borrowed ℕ → Borrowed ℕ → Borrowed ℕ → Borrowed ℕ → Manner → CodedSetting
coded_setting_lent pre_codes pre_categories post_codes post_categories =
    coded_setting_now pre_codes.entry pre_categories.entry post_codes.entry post_categories.entry

abbrev pub coded_line_lent : Borrowed ℕ → Borrowed ℕ → Borrowed ℕ → Borrowed ℕ → Borrowed ℕ → Both CodedLine CodedLine
coded_line_lent codes categories base actions masks =
    record {
      entry = coded_line_now codes.entry categories.entry base.entry actions.entry masks.entry;
      exit = coded_line_now codes.exit categories.exit base.exit actions.exit masks.exit;
    }

-- the line from the parameters of a call that may write its actions and masks, as joining does
abbrev pub coded_line_mut_now : Slice ℕ → Slice ℕ → Slice ℕ → SliceMut ℕ → SliceMut ℕ → CodedLine
coded_line_mut_now codes categories base actions masks = coded_line_of codes.now categories.now base.now actions.now masks.now

abbrev pub coded_line_mut_lent : Borrowed ℕ → Borrowed ℕ → Borrowed ℕ → BorrowedMut ℕ → BorrowedMut ℕ → Both CodedLine CodedLine
coded_line_mut_lent codes categories base actions masks =
    record {
      entry = coded_line_mut_now codes.entry categories.entry base.entry actions.entry masks.entry;
      exit = coded_line_mut_now codes.exit categories.exit base.exit actions.exit masks.exit;
    }

-- and of one that may write its codes and categories as well, as replacing does
abbrev pub coded_line_all_mut_now : SliceMut ℕ → SliceMut ℕ → Slice ℕ → SliceMut ℕ → SliceMut ℕ → CodedLine
coded_line_all_mut_now codes categories base actions masks = coded_line_of codes.now categories.now base.now actions.now masks.now

abbrev pub coded_line_all_mut_lent : BorrowedMut ℕ → BorrowedMut ℕ → Borrowed ℕ → BorrowedMut ℕ → BorrowedMut ℕ → Both CodedLine CodedLine
coded_line_all_mut_lent codes categories base actions masks =
    record {
      entry = coded_line_all_mut_now codes.entry categories.entry base.entry actions.entry masks.entry;
      exit = coded_line_all_mut_now codes.exit categories.exit base.exit actions.exit masks.exit;
    }
