-- What reordering the modifier marks of a part of a line promises, of every request, by the call's statement (`Reordering` of crate marks): `Promised` what every call promises (`Kept` of crate refusals);
-- `Outside` that a column stays as it was but for the part, `OnlyThePart`; `ByUtr53`, `Arranged` what the part becomes where its classes do not fall; `with_code`, `NothingLost`, `OthersStay` what holds whatever its classes are;
-- `Within`, `AllWithin`, `AtMostTwo` where the ranges lie; `beneath`, `spanned`, `RangeOfEach` which they are where classes do not fall; `Covered`, `ChangesMerged` that they miss nothing.
-- Assumes nothing.
use Rattle.std.specs.Prelude.{◌≡◌, not, List, [], ◌∷◌, ◌++◌, ◌⊎◌, ℕ, ◌+◌, ◌<◌, ◌≤◌, eqb, ltb, length, get_or, take, drop}
use Rattle.laws.specs.Lists.{those}
use Rattle.refusals.specs.Numbers.{said}
use Rattle.refusals.specs.Promises.{Kept}
use Rattle.blocks.specs.Marks.{Mark, codes_of}
use Rattle.marks.specs.Passes.{Span, Over}
use Rattle.marks.specs.Reordered.{ReorderRequest, Columns, part, reorder_rows, Answer, ranges_said, Reordering}
use Rattle.marks.specs.Utr53.{Rising, is_modifier, lead, utr53, arranged}

-- What every call promises, of this one: one answer; a refusal alters nothing and has no range; the smallest number that applies is given.
abbrev pub Promised : Type 0
Promised = Kept Reordering said reorder_rows (λ r _. ranges_said r ≡ [])

-- ---- an accepted request: the rest of the line
-- a column l has become m: before start and from end on it is as it was, and it has neither grown nor shrunk
pub record Outside (q : ReorderRequest) (l m : List ℕ) : Type 0 where
  pub before : take q.start m ≡ take q.start l
  pub behind : drop q.end m ≡ drop q.end l
  pub long : length m ≡ length l

-- Outside the part nothing changes, in neither column.
abbrev pub OnlyThePart : Type 0
OnlyThePart =
    (q : ReorderRequest) (c : Columns) (r : Answer) (d : Columns) → Reordering q c r d → said r ≡ 0
    → Outside q c.codes d.codes × Outside q c.classes d.classes

-- ---- an accepted request: the part, where its classes do not fall
-- Its codes are in the order that UTR 53's two steps for modifier marks give.
abbrev pub ByUtr53 : Type 0
ByUtr53 =
    (q : ReorderRequest) (c : Columns) (r : Answer) (d : Columns) → Reordering q c r d → said r ≡ 0
    → Rising (part q c) → codes_of (part q d) ≡ codes_of (utr53 (part q c))

-- It is the 220 block, the 230 block and the rest, the blocks with the lent class numbers.
abbrev pub Arranged : Type 0
Arranged =
    (q : ReorderRequest) (c : Columns) (r : Answer) (d : Columns) → Reordering q c r d → said r ≡ 0
    → Rising (part q c) → part q d ≡ arranged q.low q.high (part q c)

-- ---- an accepted request: the part, whatever its classes are
-- how many marks have a code
abbrev pub with_code : ℕ → List Mark → ℕ
with_code code l = length (those (λ m. eqb m.code code) l)

-- No code is lost or doubled: each stands there as often as before.
abbrev pub NothingLost : Type 0
NothingLost =
    (q : ReorderRequest) (c : Columns) (r : Answer) (d : Columns) → Reordering q c r d → said r ≡ 0
    → (code : ℕ) → with_code code (part q d) ≡ with_code code (part q c)

-- The marks that are no modifiers keep their order among themselves, and their classes.
abbrev pub OthersStay : Type 0
OthersStay =
    (q : ReorderRequest) (c : Columns) (r : Answer) (d : Columns) → Reordering q c r d → said r ≡ 0
    → those (λ m. not (is_modifier m)) (part q d) ≡ those (λ m. not (is_modifier m)) (part q c)

-- ---- the ranges
-- a range has a place, and lies within the part
abbrev pub Within : ReorderRequest → Span → Type 0
Within q (Over from to) = (q.start ≤ from) × (from < to) × (to ≤ q.end)

abbrev pub AllWithin : ReorderRequest → List Span → Type 0
AllWithin q [] = Unit
AllWithin q (s ∷ more) = Within q s × AllWithin q more

-- The answer has at most two ranges, each within the part.
abbrev pub AtMostTwo : Type 0
AtMostTwo = (q : ReorderRequest) (c : Columns) (r : Answer) (d : Columns) → Reordering q c r d → (length (ranges_said r) ≤ 2) × AllWithin q (ranges_said r)

-- how many marks are of a class below c: where the sequence of that class begins, if classes do not fall
abbrev pub beneath : ℕ → List Mark → ℕ
beneath c l = length (those (λ m. ltb m.class c) l)

-- the range of a block that stands at a place now and began at another before; an empty one has none
abbrev pub spanned : ℕ → ℕ → List Mark → List Span
spanned now before [] = []
spanned now before (m ∷ ms) = Over now (before + length (m ∷ ms)) ∷ []

-- Where the classes of the part do not fall, each block that is not empty has one range: from where it stands now to where it ended before.
abbrev pub RangeOfEach : Type 0
RangeOfEach =
    (q : ReorderRequest) (c : Columns) (r : Answer) (d : Columns) → Reordering q c r d → said r ≡ 0
    → Rising (part q c)
    → ranges_said r
    ≡ spanned q.start (q.start + beneath 220 (part q c)) (lead 220 (part q c))
    ++ spanned (q.start + length (lead 220 (part q c))) (q.start + beneath 230 (part q c)) (lead 230 (part q c))

-- a place lies in one of the ranges
abbrev pub Covered : ℕ → List Span → Type 0
Covered p [] = ⊥
Covered p (Over from to ∷ more) = ((from ≤ p) × (p < to)) ⊎ Covered p more

-- What changes lies in a range: a place that is in none keeps its code and its class.
abbrev pub ChangesMerged : Type 0
ChangesMerged =
    (q : ReorderRequest) (c : Columns) (r : Answer) (d : Columns) → Reordering q c r d
    → (p : ℕ) → (Covered p (ranges_said r) → ⊥) → (get_or d.codes p 0 ≡ get_or c.codes p 0) × (get_or d.classes p 0 ≡ get_or c.classes p 0)
