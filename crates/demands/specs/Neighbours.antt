-- A line between its contexts, by places: `in_the_end`, `letters_in`, `text`, `place_in` all letters in the order of reading, and where a record of the line stands among them;
-- `NearestBefore`, `NearestBehind` the nearest letter on each side of a place; `Before`, `Behind`, `Between` the types of a letter and of these two.
-- Assumes nothing.
use Rattle.std.specs.Prelude.{◌≡◌, cond, List, [], ◌∷◌, ◌++◌, reverse, ℕ, ◌+◌, ◌<◌, eqb, length, get_or}
use Rattle.laws.specs.Lists.{member}
use Rattle.letters.specs.Types.{U, T, X}
use Rattle.letters.specs.Categories.{Cf, Me, Mn}
use Rattle.lines.specs.Held.{Letters, Setting, Line}

-- "X becomes T for Mn, Me, Cf and U otherwise": the type in the end of a letter that is lent with the type t and the category c
abbrev pub in_the_end : ℕ → ℕ → ℕ
in_the_end t c = cond (eqb t X) (cond (member c (Mn ∷ Me ∷ Cf ∷ [])) T U) t

-- of each letter of two columns, up to the shorter
abbrev pub letters_in : List ℕ → List ℕ → List ℕ
letters_in [] categories = []
letters_in (t ∷ types) [] = []
letters_in (t ∷ types) (c ∷ categories) = in_the_end t c ∷ letters_in types categories

abbrev pub letters_of : Letters → List ℕ
letters_of l = letters_in l.types l.categories

-- the line with its contexts, in the order of reading: the pre-context is lent with its nearest letter first, so it is read from its end
abbrev pub text : Setting → Line → List ℕ
text s l = reverse (letters_of s.pre) ++ (letters_of l.letters ++ letters_of s.post)

-- where record j of the line stands there
abbrev pub place_in : Setting → ℕ → ℕ
place_in s j = length s.pre.types + j

-- k is the nearest letter before place p that is not transparent: all between the two are
pub record NearestBefore (ts : List ℕ) (p k : ℕ) : Type 0 where
  pub earlier : k < p
  pub letter : get_or ts k 0 ≡ T → ⊥
  pub between : (i : ℕ) → k < i → i < p → get_or ts i 0 ≡ T

-- k is the nearest one behind it
pub record NearestBehind (ts : List ℕ) (p k : ℕ) : Type 0 where
  pub later : p < k
  pub inside : k < length ts
  pub letter : get_or ts k 0 ≡ T → ⊥
  pub between : (i : ℕ) → p < i → i < k → get_or ts i 0 ≡ T

-- a is the type of the nearest letter before place p; where there is none, U stands for it
pub data Before (ts : List ℕ) (p a : ℕ) : Type 0 where
  found : (k : ℕ) → NearestBefore ts p k → get_or ts k 0 ≡ a → Before ts p a
  nothing : ((i : ℕ) → i < p → get_or ts i 0 ≡ T) → U ≡ a → Before ts p a

-- b is the type of the nearest letter behind it
pub data Behind (ts : List ℕ) (p b : ℕ) : Type 0 where
  found : (k : ℕ) → NearestBehind ts p k → get_or ts k 0 ≡ b → Behind ts p b
  nothing : ((i : ℕ) → p < i → i < length ts → get_or ts i 0 ≡ T) → U ≡ b → Behind ts p b

-- the letter at place p is a t between an a and a b
pub record Between (ts : List ℕ) (p a t b : ℕ) : Type 0 where
  pub before : Before ts p a
  pub own : get_or ts p 0 ≡ t
  pub behind : Behind ts p b
