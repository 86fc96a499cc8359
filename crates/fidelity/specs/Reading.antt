-- What reading a lookup back promises, of every row of bytes, by the calls' statements (`Reading` of crate reading, `Writing` of crate layouts): `Promised` what every call promises (`Kept` of crate refusals); `count_said`, `glyphs_said`, `PastTheAnswer`; `AreBytes`, `WriterGives`, `Accepts` which bytes are accepted; `lookup_said` the lookup that an answer says;
-- `ReadsBack`, `WritesBack` both ways round; `NeverFall` what is read; `EmptyAlike`, `EmptyReadsTwo` of an empty list of ligatures.
-- Assumes nothing.
use Rattle.std.specs.Prelude.{◌≡◌, true, ◌↔◌, List, [], ℕ, ◌*◌, ◌<◌, ◌≤◌, length, get_or, take, Ok, Err}
use Rattle.laws.specs.Lists.{Past}
use Rattle.refusals.specs.Columns.{rising}
use Rattle.refusals.specs.Numbers.{said}
use Rattle.refusals.specs.Promises.{Kept}
use Rattle.layouts.specs.declared.Kind.TheVariants.{Single, Ligature}
use Rattle.layouts.specs.Lookups.{Lookup, lookup_of, width, firsts}
use Rattle.layouts.specs.Written as write
use Rattle.layouts.specs.Written.{Written, Writing}
use Rattle.scanning.specs.Grammar.{reading}
use Rattle.scanning.specs.Exact.{as_read}
use Rattle.reading.specs.Read.{Columns, read_rows, nothing, Answer, outcome_said, Reading}

-- What every call promises, of this one: one answer; a refusal alters nothing and answers zeros; the smallest number that applies is given.
abbrev pub Promised : Type 0
Promised = Kept Reading said (λ b. read_rows (reading b)) (λ r left. outcome_said r left ≡ nothing left)

-- ---- the columns
-- bytes, as the type of lent memory says
abbrev pub AreBytes : List ℕ → Type 0
AreBytes b = (i : ℕ) → get_or b i 0 < 256

-- how many rules, and how many glyphs they replace; a refusal says none
abbrev pub count_said : Answer → ℕ
count_said (Ok m) = m.len
count_said (Err k) = 0

abbrev pub glyphs_said : Answer → ℕ
glyphs_said (Ok m) = m.len * width m.kind
glyphs_said (Err k) = 0

-- The columns past the answer are untouched, each by its own part, and they neither grow nor shrink.
abbrev pub PastTheAnswer : Type 0
PastTheAnswer =
    (b : List ℕ) → AreBytes b → (c : Columns) (r : Answer) (left : Columns) → Reading b c r left
    → Past (glyphs_said r) c.glyphs left.glyphs × Past (count_said r) c.substitutes left.substitutes

-- ---- which bytes are accepted
-- asked for l, with some area lent, the writer may answer so, not refusing, that these bytes are the answer; and the first glyphs of l do not fall
pub record WriterGives (b : List ℕ) (l : Lookup) : Type 0 where
  pub area : List ℕ
  pub answer : Written
  pub left : List ℕ
  pub asked : Writing l area answer left
  pub written : said answer ≡ 0
  pub there : take (write.length_said answer) left ≡ b
  pub up : rising 0 (firsts l) ≡ true

-- "Bytes are accepted exactly when they are what the writer gives for some list whose first glyphs do not fall": 7 is not given exactly when there is such a list.
abbrev pub Accepts : Type 0
Accepts = (b : List ℕ) → AreBytes b → (c : Columns) (r : Answer) (left : Columns) → Reading b c r left → (said r ≡ 7 → ⊥) ↔ ((l : Lookup) × WriterGives b l)

-- ---- both ways round
-- the lookup that an answer says, its list at the start of the columns; a refusal says an empty one
abbrev pub lookup_said : Answer → Columns → Lookup
lookup_said (Ok m) c = lookup_of m.flags m.kind (take (m.len * width m.kind) c.glyphs) (take m.len c.substitutes)
lookup_said (Err k) c = lookup_of 0 Single [] []

-- Written and then read, a lookup whose first glyphs do not fall is as it was: flags, kind and list, but for the component number of an empty list, which is 2 (`as_read`).
abbrev pub ReadsBack : Type 0
ReadsBack =
    (l : Lookup) (area : List ℕ) (w : Written) (out : List ℕ) → Writing l area w out → said w ≡ 0 → rising 0 (firsts l) ≡ true
    → (c : Columns) → length l.glyphs ≤ length c.glyphs → length l.substitutes ≤ length c.substitutes
    → (r : Answer) (left : Columns) → Reading (take (write.length_said w) out) c r left
    → (said r ≡ 0) × (lookup_said r left ≡ as_read l)

-- Read and then written, in an area of their length or more, bytes are as they were.
abbrev pub WritesBack : Type 0
WritesBack =
    (b : List ℕ) → AreBytes b → (c : Columns) (r : Answer) (left : Columns) → Reading b c r left → said r ≡ 0
    → (area : List ℕ) → length b ≤ length area
    → (w : Written) (out : List ℕ) → Writing (lookup_said r left) area w out
    → (said w ≡ 0) × (write.length_said w ≡ length b) × (take (length b) out ≡ b)

-- The first glyphs of what is read do not fall.
abbrev pub NeverFall : Type 0
NeverFall = (b : List ℕ) → AreBytes b → (c : Columns) (r : Answer) (left : Columns) → Reading b c r left → said r ≡ 0 → rising 0 (firsts (lookup_said r left)) ≡ true

-- ---- an empty list of ligatures
-- "An empty ligature list has the same bytes for both component numbers"
abbrev pub EmptyAlike : Type 0
EmptyAlike =
    (flags : ℕ) (area : List ℕ) (w v : Written) (out other : List ℕ) → Writing (lookup_of flags (Ligature 2) [] []) area w out → Writing (lookup_of flags (Ligature 3) [] []) area v other
    → (w ≡ v) × (out ≡ other)

-- "and reads with 2"
abbrev pub EmptyReadsTwo : Type 0
EmptyReadsTwo =
    (flags n : ℕ) (area : List ℕ) (w : Written) (out : List ℕ) → Writing (lookup_of flags (Ligature n) [] []) area w out → said w ≡ 0
    → (c : Columns) (r : Answer) (left : Columns) → Reading (take (write.length_said w) out) c r left
    → (said r ≡ 0) × (lookup_said r left ≡ lookup_of flags (Ligature 2) [] [])
