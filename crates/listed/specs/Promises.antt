-- What the look-up promises (document 02, A1: "the table's rule is proved once over all its rows"): over every list of rows that rises, `HeldType`, `OneRow` the type of a code is that of the one row that holds it; `Unlisted` X where none holds it;
-- `Apart`, `NoneSplit` what rising says of any two rows; `ListedRises` that the rows listed rise; `Typed`, `_has_`, `examples`, `Examples` codes and their types.
-- Assumes nothing.
use Rattle.std.specs.Prelude.{◌≡◌, true, false, List, [], ◌∷◌, ◌++◌, map, ℕ, suc, ◌<◌}
use Rattle.letters.specs.Types.{U, L, R, D, Alaph, DalathRish, T, X}
use Rattle.listed.specs.Rows.{Row, holds, type_in, rising, Among}
use Rattle.listed.specs.Listed.{listed}

-- a row's type is that of each code that it holds
abbrev pub HeldType : Type 0
HeldType = (rows : List Row) → rising rows ≡ true → (r : Row) → Among rows r → (c : ℕ) → holds r c ≡ true → type_in rows c ≡ r.type

-- no two rows hold one code
abbrev pub OneRow : Type 0
OneRow = (rows : List Row) → rising rows ≡ true → (r s : Row) → Among rows r → Among rows s → (c : ℕ) → holds r c ≡ true → holds s c ≡ true → r ≡ s

-- a code that no row holds is X, whatever the rows
abbrev pub Unlisted : Type 0
Unlisted = (rows : List Row) (c : ℕ) → ((r : Row) → Among rows r → holds r c ≡ false) → type_in rows c ≡ X

-- a row ends before each later one begins
abbrev pub Apart : Type 0
Apart = (before behind : List Row) (r s : Row) → rising (before ++ (r ∷ behind)) ≡ true → Among behind s → r.last < s.first

-- no two rows should be one: none begins directly behind one of its own type
abbrev pub NoneSplit : Type 0
NoneSplit = (rows : List Row) → rising rows ≡ true → (r s : Row) → Among rows r → Among rows s → s.first ≡ suc r.last → s.type ≡ r.type → ⊥

-- so all of this holds of the rows that Unicode lists
abbrev pub ListedRises : Type 0
ListedRises = rising listed ≡ true

-- a code and its type
pub record Typed : Type 0 where
  pub code : ℕ
  pub type : ℕ

infixl 20 ◌has◌
abbrev pub ◌has◌ : ℕ → ℕ → Typed
c has t = record { code = c; type = t }

-- letters of each type; 0640 is a joining causer, 200C is listed, 064E is not; the whole number counts, also above 10FFFF; 10ED9 is new in 18.0.0
abbrev pub examples : List Typed
examples =
    (0x0628 has D) ∷ (0x0627 has R) ∷ (0x0710 has Alaph) ∷ (0x0715 has DalathRish) ∷ (0x0640 has D) ∷ (0x200C has U) ∷ (0x070F has T) ∷ (0x064E has X) ∷
    (0x10628 has X) ∷ (0x110628 has X) ∷ (0x80000628 has X) ∷ (0xFFFFFFFF has X) ∷ (0x10ED9 has L) ∷ []

abbrev pub Examples : Type 0
Examples = map (λ e. type_in listed e.code) examples ≡ map (λ e. e.type) examples
