-- Big-endian 16-bit numbers ("words") in bytes (document 01, "Lookup bytes"): `bytes` those of a list of words; `word_at`, `words_at` the words that stand in bytes; `Wrote` how far a writer of words has come.
-- Assumes nothing.
use Rattle.std.specs.Prelude.{◌≡◌, List, [], ◌∷◌, ℕ, zero, suc, ◌+◌, ◌*◌, ◌/◌, ◌%◌, ◌≤◌, length, get_or}
use Rattle.laws.specs.Lists.{pasted}

-- a word's two bytes, the high one first
unfoldable pub bytes : List ℕ → List ℕ
bytes [] = []
bytes (w ∷ ws) = w / 256 ∷ w % 256 ∷ bytes ws

-- the word whose first byte is byte i
unfoldable pub word_at : List ℕ → ℕ → ℕ
word_at b i = get_or b i 0 * 256 + get_or b (i + 1) 0

-- n words, the first at byte i
unfoldable pub words_at : List ℕ → ℕ → ℕ → List ℕ
words_at b i zero = []
words_at b i (suc n) = word_at b i ∷ words_at b (i + 2) n

-- an area lent, with words to come from byte i on, was brought to another, with other words to come from byte j on: these, written over it, make what all of them were to make
pub record Wrote (area : List ℕ) (i : ℕ) (ws : List ℕ) (now : List ℕ) (j : ℕ) (rest : List ℕ) : Type 0 where
  pub room : i + 2 * length ws ≤ length area
  pub place : j + 2 * length rest ≡ i + 2 * length ws
  pub same : length now ≡ length area
  pub made : pasted (bytes rest) j now ≡ pasted (bytes ws) i area
