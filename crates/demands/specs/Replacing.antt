-- What replacing a letter promises, of every line, by the call's statement (`Replacing` of crate replacing): `Promised` what every call promises (`Kept` of crate refusals). Demand 3: `Current` that every record
-- is as joining afresh gives; `FreshCurrent`, `StaysCurrent`, `AlwaysCurrent` that a line stays so, `JoinsToItself` that joining accepts it and alters nothing; `Named` the records that a new letter can alter,
-- in plain words, `NamedAlike` by the old line as by the new; `AltersNear`, `GetsFresh`, `ChangesLetter`, `NoOther` what a replacement alters and what not; `EitherOrder` that two may change places.
-- Assumes nothing.
use Rattle.std.specs.Prelude.{◌≡◌, Bool, true, List, [], ◌∷◌, ◌↔◌, ℕ, ◌<◌, ◌≤◌, length, get_or, set}
use Rattle.refusals.specs.Numbers.{said, Verdict}
use Rattle.refusals.specs.Promises.{Kept}
use Rattle.selectors.specs.Selectors.{selector}
use Rattle.lines.specs.Held.{Setting, Line}
use Rattle.lines.specs.Joined.{types_of, joined_line, Joining}
use Rattle.replacing.specs.Replaced.{Request, replace_rows, Replacing}
use Rattle.demands.specs.Neighbours.{NearestBefore, NearestBehind}

-- What every call promises, of this one: one answer; a refusal alters nothing; the smallest number that applies is given.
abbrev pub Promised : Type 0
Promised = Kept {Asked = Setting × Request} (λ q. Replacing q.0 q.1) said (λ q. replace_rows q.0 q.1) (λ _ _. Unit)

-- ---- demand 3: no old forms
-- every record has the action and the mask that joining the line's present letters afresh gives
abbrev pub Current : Setting → Line → Type 0
Current s l = l ≡ joined_line s l

-- A line that `join_line` has joined is current.
abbrev pub FreshCurrent : Type 0
FreshCurrent = (s : Setting) (l : Line) (r : Verdict) (m : Line) → Joining s l r m → said r ≡ 0 → Current s m

-- A line that is current is so after any request, accepted or refused.
abbrev pub StaysCurrent : Type 0
StaysCurrent = (s : Setting) (a : Request) (l : Line) (r : Verdict) (m : Line) → Current s l → Replacing s a l r m → Current s m

-- requests one after the other, each with an answer that its statement allows, make the line m of the line l
abbrev pub AfterAll : Setting → List Request → Line → Line → Type 0
AfterAll s [] l m = l ≡ m
AfterAll s (a ∷ all) l m = (r : Verdict) × (k : Line) × Replacing s a l r k × AfterAll s all k m

-- So a line that was joined once is current after any number of requests, some of them refused, in the setting that it was joined in: where contexts, feature
-- masks or script change, it has to be joined again.
abbrev pub AlwaysCurrent : Type 0
AlwaysCurrent =
    (s : Setting) (l : Line) (r : Verdict) (k : Line) (all : List Request) (m : Line) → Joining s l r k → said r ≡ 0 → AfterAll s all k m → Current s m

-- And `join_line` says so itself: whatever answer its statement allows for that line, it is accepted, and the line is as it was.
abbrev pub JoinsToItself : Type 0
JoinsToItself =
    (s : Setting) (l : Line) (r : Verdict) (k : Line) (all : List Request) (m : Line) → Joining s l r k → said r ≡ 0 → AfterAll s all k m
    → (u : Verdict) (n : Line) → Joining s m u n → (said u ≡ 0) × (n ≡ m)

-- ---- the records that a new letter can alter
-- the place itself, and the nearest letter on each side of it
pub data Near (ts : List ℕ) (p : ℕ) : ℕ → Type 0 where
  itself : Near ts p p
  before : {k : ℕ} → NearestBefore ts p k → Near ts p k
  behind : {k : ℕ} → NearestBehind ts p k → Near ts p k

-- j stands in the run of selectors directly behind k: every code from there to j is one
pub record RunBehind (codes : List ℕ) (k j : ℕ) : Type 0 where
  pub later : k < j
  pub selectors : (i : ℕ) → k < i → i ≤ j → selector (get_or codes i 0) ≡ true

-- record j of a line with these codes and letters is one that a new letter at p can alter: it is near p, or the line is Mongolian and it
-- stands in the run of selectors behind one that is
pub data Named (mongolian : Bool) (codes ts : List ℕ) (p : ℕ) : ℕ → Type 0 where
  near : {j : ℕ} → Near ts p j → Named mongolian codes ts p j
  run : {k j : ℕ} → mongolian ≡ true → Near ts p k → RunBehind codes k j → Named mongolian codes ts p j

-- the records of a line that a new letter at p can alter
abbrev pub NamedIn : Setting → Line → ℕ → ℕ → Type 0
NamedIn s l = Named s.mongolian l.codes (types_of l.letters)

-- The line before a replacement and the line after it name the same records: the letter at a place does not count for what is named from there.
abbrev pub NamedAlike : Type 0
NamedAlike =
    (s : Setting) (a : Request) (l : Line) (r : Verdict) (m : Line) → Replacing s a l r m → said r ≡ 0 → (j : ℕ) → NamedIn s l a.place j ↔ NamedIn s m a.place j

-- the line m has the action and the mask of the line l at each record that is not named
abbrev pub OthersKept : Setting → Request → Line → Line → Type 0
OthersKept s a l m =
    (j : ℕ) → (NamedIn s m a.place j → ⊥) → (get_or m.actions j 0 ≡ get_or l.actions j 0) × (get_or m.masks j 0 ≡ get_or l.masks j 0)

-- and at each that is named, those that joining its letters afresh gives
abbrev pub Renewed : Setting → Request → Line → Type 0
Renewed s a m =
    (j : ℕ) → NamedIn s m a.place j
    → (get_or m.actions j 0 ≡ get_or (joined_line s m).actions j 0) × (get_or m.masks j 0 ≡ get_or (joined_line s m).masks j 0)

-- A replacement alters the action and the mask of no other record, by the letters and codes that the line has then.
abbrev pub AltersNear : Type 0
AltersNear = (s : Setting) (a : Request) (l : Line) (r : Verdict) (m : Line) → Replacing s a l r m → said r ≡ 0 → OthersKept s a l m

-- Those records get the action and the mask that joining the line's new letters afresh gives, whatever they had.
abbrev pub GetsFresh : Type 0
GetsFresh = (s : Setting) (a : Request) (l : Line) (r : Verdict) (m : Line) → Replacing s a l r m → said r ≡ 0 → Renewed s a m

-- what a replacement does to the other columns
pub record NewLetter (a : Request) (l m : Line) : Type 0 where
  pub codes : m.codes ≡ set l.codes a.place a.code
  pub types : m.letters.types ≡ set l.letters.types a.place a.type
  pub categories : m.letters.categories ≡ set l.letters.categories a.place a.category
  pub base : m.base ≡ l.base
  pub actions : length m.actions ≡ length l.actions
  pub masks : length m.masks ≡ length l.masks

-- Code, type and category change at the place alone; base masks never do; no column grows or shrinks.
abbrev pub ChangesLetter : Type 0
ChangesLetter = (s : Setting) (a : Request) (l : Line) (r : Verdict) (m : Line) → Replacing s a l r m → said r ≡ 0 → NewLetter a l m

-- These three leave no room: a line that has what they promise is the one that the call leaves.
abbrev pub NoOther : Type 0
NoOther =
    (s : Setting) (a : Request) (l : Line) (r : Verdict) (m : Line) → Replacing s a l r m → said r ≡ 0
    → (k : Line) → NewLetter a l k → OthersKept s a l k → Renewed s a k → k ≡ m

-- Two requests for different places leave the same line in either order, and each is answered alike, accepted or refused. The line need not be current.
abbrev pub EitherOrder : Type 0
EitherOrder =
    (s : Setting) (a b : Request) (l : Line) → (a.place ≡ b.place → ⊥)
    → (r u : Verdict) (k m : Line) → Replacing s a l r k → Replacing s b k u m
    → (u' r' : Verdict) (k' m' : Line) → Replacing s b l u' k' → Replacing s a k' r' m'
    → (m ≡ m') × (r ≡ r') × (u ≡ u')
