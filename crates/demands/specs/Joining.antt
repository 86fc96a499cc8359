-- What joining promises, of every line, by the statement of `lines::join_line` (`Joining` of lines): `Promised` what every call promises (`Kept` of crate refusals), `AcceptedJoins`; `OnlyForms`, `WritesForms` what an accepted call alters; `selectors`, `Follows`,
-- `SelectorsFollow` the selectors of a Mongolian line; `Joined` a record that is joined by its neighbours, `ByNeighbours` by which rule, `UnicodeCall` that this is Unicode's where no letter has rules of its own, `Local` what an action depends on; `feature_of`,
-- `MaskOfAction` the masks. Neighbours are found by places, in the line with its contexts (`text` of Neighbours).
-- Assumes nothing.
use Rattle.std.specs.Prelude.{◌≡◌, true, cond, List, [], ◌∷◌, ℕ, ◌-◌, ◌<◌, eqb, length, get_or}
use Rattle.std.specs.Int.Bits.{bit_or}
use Rattle.laws.specs.Lists.{member}
use Rattle.refusals.specs.Numbers.{said, Verdict}
use Rattle.refusals.specs.Promises.{Kept}
use Rattle.letters.specs.Types.{Alaph, DalathRish}
use Rattle.letters.specs.Actions.{isol, fina, fin2, fin3, medi, med2, init}
use Rattle.shapes.specs.Joining.{form}
use Rattle.shapes.specs.Unicode.{unicode_form}
use Rattle.lines.specs.Held.{Setting, Line}
use Rattle.lines.specs.Joined.{join_rows, joined_line, Joining}
use Rattle.demands.specs.Neighbours.{text, place_in, Between}

-- What every call promises, of this one: one answer; a refusal alters nothing; the smallest number that applies is given.
abbrev pub Promised : Type 0
Promised = Kept Joining said join_rows (λ _ _. Unit)

-- One that is accepted leaves the joined line.
abbrev pub AcceptedJoins : Type 0
AcceptedJoins = (s : Setting) (l : Line) (r : Verdict) (m : Line) → Joining s l r m → said r ≡ 0 → m ≡ joined_line s l

-- ---- an accepted call: what it alters
-- the line l has become m, which differs in actions and masks alone: an action and a mask for each record
pub record OnlyForms (l m : Line) : Type 0 where
  pub codes : m.codes ≡ l.codes
  pub letters : m.letters ≡ l.letters
  pub base : m.base ≡ l.base
  pub actions : length m.actions ≡ length l.codes
  pub masks : length m.masks ≡ length l.codes

-- Codes, types, categories and base masks are never written.
abbrev pub WritesForms : Type 0
WritesForms = (s : Setting) (l : Line) (r : Verdict) (m : Line) → Joining s l r m → said r ≡ 0 → OnlyForms l m

-- ---- an accepted call: the actions
-- "180B, 180C, 180D or 180F (hex)"
abbrev pub selectors : List ℕ
selectors = 0x180B ∷ 0x180C ∷ 0x180D ∷ 0x180F ∷ []

-- record j of a Mongolian line is not the first, and its code is one of these
pub record Follows (s : Setting) (l : Line) (j : ℕ) : Type 0 where
  pub mongolian : s.mongolian ≡ true
  pub later : 0 < j
  pub named : member (get_or l.codes j 0) selectors ≡ true

-- Such a record has the action of the record before it: of the one that this has in the end, so that selectors behind each other all have that of the letter before them.
abbrev pub SelectorsFollow : Type 0
SelectorsFollow =
    (s : Setting) (l : Line) (r : Verdict) (m : Line) → Joining s l r m → said r ≡ 0
    → (j : ℕ) → j < length l.codes → Follows s l j → get_or m.actions j 0 ≡ get_or m.actions (j - 1) 0

-- record j of the line is any other, and in the line with its contexts a letter t between a and b: its nearest neighbours that are not transparent, U where there is none
pub record Joined (s : Setting) (l : Line) (j a t b : ℕ) : Type 0 where
  pub inside : j < length l.codes
  pub free : Follows s l j → ⊥
  pub place : Between (text s l) (place_in s j) a t b

-- Each record that does not follow is such a letter, and has the action that the rule by neighbours gives it there.
abbrev pub ByNeighbours : Type 0
ByNeighbours =
    (s : Setting) (l : Line) (r : Verdict) (m : Line) → Joining s l r m → said r ≡ 0
    → (j : ℕ) → j < length l.codes → (Follows s l j → ⊥)
    → (a : ℕ) × (t : ℕ) × (b : ℕ) × Joined s l j a t b × (get_or m.actions j 0 ≡ form a t b)

-- Where no letter of line and contexts is an Alaph, a Dalath or a Rish, that is Unicode's rule: "an L or D joins the next non-T letter if that is R or D .."
abbrev pub UnicodeCall : Type 0
UnicodeCall =
    (s : Setting) (l : Line) (r : Verdict) (m : Line) → Joining s l r m → said r ≡ 0
    → ((i : ℕ) → (get_or (text s l) i 0 ≡ Alaph → ⊥) × (get_or (text s l) i 0 ≡ DalathRish → ⊥))
    → (j a t b : ℕ) → Joined s l j a t b → get_or m.actions j 0 ≡ unicode_form a t b

-- An action depends on nothing but the letter's own type and its nearest neighbours: in two calls, whatever line and setting they are lent, letters of one type between the same neighbours get the same action.
abbrev pub Local : Type 0
Local =
    (s s' : Setting) (l l' : Line) (r r' : Verdict) (m m' : Line) → Joining s l r m → said r ≡ 0 → Joining s' l' r' m' → said r' ≡ 0
    → (j j' a t b : ℕ) → Joined s l j a t b → Joined s' l' j' a t b → get_or m.actions j 0 ≡ get_or m'.actions j' 0

-- ---- an accepted call: the masks
-- of seven feature masks that of an action, by the actions' names; 0 for none
abbrev pub feature_of : (isolated final second third medial medial2 initial : ℕ) → ℕ → ℕ
feature_of isolated final second third medial medial2 initial action =
    cond (eqb action isol) isolated
    (cond (eqb action fina) final
    (cond (eqb action fin2) second
    (cond (eqb action fin3) third
    (cond (eqb action medi) medial
    (cond (eqb action med2) medial2
    (cond (eqb action init) initial 0))))))

-- "A mask afterwards is its base mask OR the entry of its action": whatever mask the record had.
abbrev pub MaskOfAction : Type 0
MaskOfAction =
    (s : Setting) (l : Line) (r : Verdict) (m : Line) → Joining s l r m → said r ≡ 0
    → (isolated final second third medial medial2 initial : ℕ) → s.features ≡ isolated ∷ final ∷ second ∷ third ∷ medial ∷ medial2 ∷ initial ∷ []
    → (j : ℕ) → j < length l.codes
    → get_or m.masks j 0 ≡ bit_or (get_or l.base j 0) (feature_of isolated final second third medial medial2 initial (get_or m.actions j 0))
