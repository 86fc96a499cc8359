-- What joining and replacing by codes promise, of every line, by the calls' statements (`JoiningCodes`, `ReplacingCodes` of crate coded). `JoinPromised`, `ReplacePromised` what every call promises (`Kept` of crate refusals); `CodesNeverRefused` that no code is refused; `AsLent`
-- that lent types would give the same; `OtherCodes` letters of other codes; `ListedStays`, `UnlistedByCategory` the type in the end of a code. Demands 2 and 3 over the resulting types: `CodesByNeighbours`, `JoinsAsListed`, `CodesUnicode`, `CodesMasks`, `OnlyCodedForms`, `CodesWriteForms`; `CodesCurrent`, `CodesFreshCurrent`,
-- `AfterAllCodes`, `CodesAlwaysCurrent`, `CodesJoinToThemselves`; `CodesAlterNear`, `CodesGetFresh`, `NewCode`, `CodesChangeLetter`, `CodesEitherOrder`.
-- Assumes nothing.
use Rattle.std.specs.Prelude.{◌≡◌, true, false, List, [], ◌∷◌, ℕ, ◌<◌, length, get_or, set}
use Rattle.std.specs.Int.Bits.{bit_or}
use Rattle.refusals.specs.Numbers.{said, Verdict}
use Rattle.refusals.specs.Promises.{Kept}
use Rattle.letters.specs.Types.{Alaph, DalathRish, X}
use Rattle.shapes.specs.Joining.{form}
use Rattle.shapes.specs.Unicode.{unicode_form}
use Rattle.listed.specs.Rows.{Row, holds, Among}
use Rattle.listed.specs.Listed.{listed}
use Rattle.lines.specs.Held.{Line}
use Rattle.lines.specs.Joined.{join_rows, Joining}
use Rattle.replacing.specs.Replaced.{replace_rows}
use Rattle.coded.specs.Coded.{CodedLetters, CodedSetting, CodedLine, CodedRequest, typed_letters, typed_setting, typed_line, typed_request, JoiningCodes, ReplacingCodes}
use Rattle.demands.specs.Neighbours.{in_the_end, letters_of, text}
use Rattle.demands.specs.Joining.{Follows, Joined, feature_of}
use Rattle.demands.specs.Replacing.{Current, OthersKept, Renewed}

-- What every call promises, of these two: one answer; a refusal alters nothing; the smallest number that applies is given, by the rows of joining and of replacing.
abbrev pub JoinPromised : Type 0
JoinPromised = Kept JoiningCodes said (λ s l. join_rows (typed_setting s) (typed_line l)) (λ _ _. Unit)

abbrev pub ReplacePromised : Type 0
ReplacePromised =
    Kept {Asked = CodedSetting × CodedRequest} (λ q. ReplacingCodes q.0 q.1) said (λ q l. replace_rows (typed_setting q.0) (typed_request q.1) (typed_line l)) (λ _ _. Unit)

-- ---- types
-- letters of other codes: as many, with the same categories
pub record OtherCodes (a b : CodedLetters) : Type 0 where
  pub count : length a.codes ≡ length b.codes
  pub categories : a.categories ≡ b.categories

-- No code is refused anywhere: a line of other codes, between contexts of other codes, is answered with the same number.
abbrev pub CodesNeverRefused : Type 0
CodesNeverRefused =
    (s t : CodedSetting) (l k : CodedLine) (r u : Verdict) (m n : CodedLine) → JoiningCodes s l r m → JoiningCodes t k u n
    → OtherCodes s.pre t.pre → OtherCodes s.post t.post → OtherCodes l.letters k.letters
    → l.base ≡ k.base → l.actions ≡ k.actions → l.masks ≡ k.masks
    → said r ≡ said u

-- Whoever lends the types that Unicode lists is answered alike, and is left the same line.
abbrev pub AsLent : Type 0
AsLent =
    (s : CodedSetting) (l : CodedLine) (r : Verdict) (m : CodedLine) → JoiningCodes s l r m
    → (u : Verdict) (n : Line) → Joining (typed_setting s) (typed_line l) u n → (r ≡ u) × (typed_line m ≡ n)

-- A code that a row of Unicode's holds has the row's type in the end, whatever its category: none makes it transparent.
abbrev pub ListedStays : Type 0
ListedStays =
    (l : CodedLetters) (j : ℕ) → j < length l.codes → j < length l.categories
    → (row : Row) → Among listed row → holds row (get_or l.codes j 0) ≡ true → get_or (letters_of (typed_letters l)) j 0 ≡ row.type

-- Of any other code the category decides: a T for Mn, Me and Cf, a U otherwise.
abbrev pub UnlistedByCategory : Type 0
UnlistedByCategory =
    (l : CodedLetters) (j : ℕ) → j < length l.codes → j < length l.categories
    → ((row : Row) → Among listed row → holds row (get_or l.codes j 0) ≡ false) → get_or (letters_of (typed_letters l)) j 0 ≡ in_the_end X (get_or l.categories j 0)

-- ---- demand 2, over the resulting types
abbrev pub CodesByNeighbours : Type 0
CodesByNeighbours =
    (s : CodedSetting) (l : CodedLine) (r : Verdict) (m : CodedLine) → JoiningCodes s l r m → said r ≡ 0
    → (j : ℕ) → j < length l.letters.codes → (Follows (typed_setting s) (typed_line l) j → ⊥)
    → (a : ℕ) × (t : ℕ) × (b : ℕ) × Joined (typed_setting s) (typed_line l) j a t b × (get_or m.actions j 0 ≡ form a t b)

-- A record whose code a row of Unicode's holds is joined as a letter of the row's type, whatever its category.
abbrev pub JoinsAsListed : Type 0
JoinsAsListed =
    (s : CodedSetting) (l : CodedLine) (r : Verdict) (m : CodedLine) → JoiningCodes s l r m → said r ≡ 0
    → (j : ℕ) → j < length l.letters.codes → (Follows (typed_setting s) (typed_line l) j → ⊥)
    → (row : Row) → Among listed row → holds row (get_or l.letters.codes j 0) ≡ true
    → (a : ℕ) × (b : ℕ) × Joined (typed_setting s) (typed_line l) j a row.type b × (get_or m.actions j 0 ≡ form a row.type b)

abbrev pub CodesUnicode : Type 0
CodesUnicode =
    (s : CodedSetting) (l : CodedLine) (r : Verdict) (m : CodedLine) → JoiningCodes s l r m → said r ≡ 0
    → let all = text (typed_setting s) (typed_line l) in ((i : ℕ) → (get_or all i 0 ≡ Alaph → ⊥) × (get_or all i 0 ≡ DalathRish → ⊥))
    → (j a t b : ℕ) → Joined (typed_setting s) (typed_line l) j a t b → get_or m.actions j 0 ≡ unicode_form a t b

abbrev pub CodesMasks : Type 0
CodesMasks =
    (s : CodedSetting) (l : CodedLine) (r : Verdict) (m : CodedLine) → JoiningCodes s l r m → said r ≡ 0
    → (isolated final second third medial medial2 initial : ℕ) → s.features ≡ isolated ∷ final ∷ second ∷ third ∷ medial ∷ medial2 ∷ initial ∷ []
    → (j : ℕ) → j < length l.letters.codes
    → get_or m.masks j 0 ≡ bit_or (get_or l.base j 0) (feature_of isolated final second third medial medial2 initial (get_or m.actions j 0))

-- the line l has become m, which differs in actions and masks alone: an action and a mask for each record
pub record OnlyCodedForms (l m : CodedLine) : Type 0 where
  pub letters : m.letters ≡ l.letters
  pub base : m.base ≡ l.base
  pub actions : length m.actions ≡ length l.letters.codes
  pub masks : length m.masks ≡ length l.letters.codes

abbrev pub CodesWriteForms : Type 0
CodesWriteForms = (s : CodedSetting) (l : CodedLine) (r : Verdict) (m : CodedLine) → JoiningCodes s l r m → said r ≡ 0 → OnlyCodedForms l m

-- ---- demand 3, over the resulting types
-- every record has the action and the mask that joining the present codes and categories afresh gives
abbrev pub CodesCurrent : CodedSetting → CodedLine → Type 0
CodesCurrent s l = Current (typed_setting s) (typed_line l)

-- A line that `join_codes` has joined is current.
abbrev pub CodesFreshCurrent : Type 0
CodesFreshCurrent = (s : CodedSetting) (l : CodedLine) (r : Verdict) (m : CodedLine) → JoiningCodes s l r m → said r ≡ 0 → CodesCurrent s m

-- requests one after the other, each with an answer that its statement allows, make the line m of the line l
abbrev pub AfterAllCodes : CodedSetting → List CodedRequest → CodedLine → CodedLine → Type 0
AfterAllCodes s [] l m = l ≡ m
AfterAllCodes s (q ∷ all) l m = (r : Verdict) × (k : CodedLine) × ReplacingCodes s q l r k × AfterAllCodes s all k m

-- It is so after any number of requests, some of them refused.
abbrev pub CodesAlwaysCurrent : Type 0
CodesAlwaysCurrent =
    (s : CodedSetting) (l : CodedLine) (r : Verdict) (k : CodedLine) (all : List CodedRequest) (m : CodedLine)
    → JoiningCodes s l r k → said r ≡ 0 → AfterAllCodes s all k m → CodesCurrent s m

-- And `join_codes` says so itself: it accepts that line, and leaves it as it was.
abbrev pub CodesJoinToThemselves : Type 0
CodesJoinToThemselves =
    (s : CodedSetting) (l : CodedLine) (r : Verdict) (k : CodedLine) (all : List CodedRequest) (m : CodedLine)
    → JoiningCodes s l r k → said r ≡ 0 → AfterAllCodes s all k m
    → (u : Verdict) (n : CodedLine) → JoiningCodes s m u n → (said u ≡ 0) × (n ≡ m)

-- A replacement alters the action and the mask of no record but those that its place names.
abbrev pub CodesAlterNear : Type 0
CodesAlterNear =
    (s : CodedSetting) (q : CodedRequest) (l : CodedLine) (r : Verdict) (m : CodedLine) → ReplacingCodes s q l r m → said r ≡ 0
    → OthersKept (typed_setting s) (typed_request q) (typed_line l) (typed_line m)

-- Those get the action and the mask that joining the new codes afresh gives, whatever they had.
abbrev pub CodesGetFresh : Type 0
CodesGetFresh =
    (s : CodedSetting) (q : CodedRequest) (l : CodedLine) (r : Verdict) (m : CodedLine) → ReplacingCodes s q l r m → said r ≡ 0
    → Renewed (typed_setting s) (typed_request q) (typed_line m)

-- what a replacement does to the other columns
pub record NewCode (q : CodedRequest) (l m : CodedLine) : Type 0 where
  pub codes : m.letters.codes ≡ set l.letters.codes q.place q.code
  pub categories : m.letters.categories ≡ set l.letters.categories q.place q.category
  pub base : m.base ≡ l.base
  pub actions : length m.actions ≡ length l.actions
  pub masks : length m.masks ≡ length l.masks

abbrev pub CodesChangeLetter : Type 0
CodesChangeLetter = (s : CodedSetting) (q : CodedRequest) (l : CodedLine) (r : Verdict) (m : CodedLine) → ReplacingCodes s q l r m → said r ≡ 0 → NewCode q l m

-- Two requests for different places leave the same line in either order, and each is answered alike, accepted or refused.
abbrev pub CodesEitherOrder : Type 0
CodesEitherOrder =
    (s : CodedSetting) (p q : CodedRequest) (l : CodedLine) → (p.place ≡ q.place → ⊥)
    → (r u : Verdict) (k m : CodedLine) → ReplacingCodes s p l r k → ReplacingCodes s q k u m
    → (u' r' : Verdict) (k' m' : CodedLine) → ReplacingCodes s q l u' k' → ReplacingCodes s p k' r' m'
    → (m ≡ m') × (r ≡ r') × (u ≡ u')
