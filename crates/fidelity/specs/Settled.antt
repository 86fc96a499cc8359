-- What `read_lookup` answers and leaves in the writers' words, with none of the word-by-word grammar: `Room` that columns hold a list; `GivenFor` the lookup that bytes are, as it reads; `Settled` the three answers; `ByTheWriters` that the call's statement is this, `NoOther` that this leaves no room.
-- Assumes nothing.
use Rattle.std.specs.Prelude.{◌≡◌, ◌↔◌, List, ℕ, ◌≤◌, length}
use Rattle.refusals.specs.Numbers.{said}
use Rattle.layouts.specs.Lookups.{Lookup}
use Rattle.scanning.specs.Exact.{as_read}
use Rattle.reading.specs.Read.{Columns, nothing, found, Answer, outcome_said, Reading}
use Rattle.fidelity.specs.Reading.{AreBytes, WriterGives}

-- each column has a place for all that goes into it: it is not "shorter than the answer"
pub record Room (l : Lookup) (c : Columns) : Type 0 where
  pub glyphs : length l.glyphs ≤ length c.glyphs
  pub substitutes : length l.substitutes ≤ length c.substitutes

-- bytes are what the writer gives for l, whose first glyphs do not fall; and if it is an empty list of ligatures, it has component number 2
pub record GivenFor (b : List ℕ) (l : Lookup) : Type 0 where
  pub gives : WriterGives b l
  pub reads : as_read l ≡ l

-- lent the bytes b and the columns c, the call may answer r and leave the columns `left`:
pub data Settled (b : List ℕ) (c : Columns) (r : Answer) (left : Columns) : Type 0 where
  -- the lookup that the bytes are, its list at the start of the columns, which hold it
  read : (l : Lookup) → GivenFor b l → Room l c → said r ≡ 0 → outcome_said r left ≡ found l c → Settled b c r left
  -- 8 where they do not hold it: zeros, and the columns as they were
  no_room : (l : Lookup) → GivenFor b l → (Room l c → ⊥) → said r ≡ 8 → outcome_said r left ≡ nothing c → Settled b c r left
  -- 7 where the bytes are none that the writer gives for any such list: likewise
  no_lookup : ((l : Lookup) → WriterGives b l → ⊥) → said r ≡ 7 → outcome_said r left ≡ nothing c → Settled b c r left

-- The call's statement allows just these answers.
abbrev pub ByTheWriters : Type 0
ByTheWriters = (b : List ℕ) → AreBytes b → (c : Columns) (r : Answer) (left : Columns) → Reading b c r left ↔ Settled b c r left

-- So an answer that is one of these is the call's, and the columns are those that it leaves.
abbrev pub NoOther : Type 0
NoOther =
    (b : List ℕ) → AreBytes b → (c : Columns) (r : Answer) (left : Columns) → Reading b c r left
    → (u : Answer) (other : Columns) → Settled b c u other → (u ≡ r) × (other ≡ left)
