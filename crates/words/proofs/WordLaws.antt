-- Words and their bytes: how many (`length-bytes`, `length-words`); words one behind the other (`bytes-append`, `words_append`); the next word (`one_less`, `words-next`, `words-none`); bytes read give the words that were written (`read_back`), and words read give back the bytes (`bytes_read`);
-- a word of bytes fits (`word_fits`, `words-fit`); a column filled (`paste_front`, `fill_next`).
-- Assumes nothing.
use mathlib.Core.Path.{◌≡◌, refl, sym, ap, ap₂, ◌∙◌}
use mathlib.Core.List.{List, [], ◌∷◌, ◌++◌}
use Prim.Native.Nat.{ℕ, zero, suc, ◌+◌, ◌-◌, ◌*◌, ◌/◌, ◌%◌, ◌<◌}
use native.Mathlib.Nat.{add-zero, zero-add, suc-add, div-add-mod'}
use native.Mathlib.Omega.{arith}
use lib.ListN.{length, set, drop, get_or}
use lib.Arith.{digits_div, digits_mod}
use Rattle.laws.specs.Lists.{pasted}
use Rattle.laws.proofs.PasteLaws.{length-pasted, paste_one, paste_behind}
use Rattle.words.specs.Words.{bytes, word_at, words_at}

pub length-bytes : (ws : List ℕ) → length (bytes ws) ≡ 2 * length ws
unfolding bytes
length-bytes [] = refl
length-bytes (w ∷ ws) = omega (arith, length-bytes ws)

pub bytes-append : (a b : List ℕ) → bytes (a ++ b) ≡ bytes a ++ bytes b
unfolding bytes
bytes-append [] b = refl
bytes-append (w ∷ a) b = ap (λ (l : List ℕ). w / 256 ∷ w % 256 ∷ l) (bytes-append a b)

pub length-words : (b : List ℕ) (i n : ℕ) → length (words_at b i n) ≡ n
unfolding words_at
length-words b i zero = refl
length-words b i (suc n) = ap suc (length-words b (i + 2) n)

pub words_append : (b : List ℕ) (i m n : ℕ) → words_at b i (m + n) ≡ words_at b i m ++ words_at b (i + 2 * m) n
unfolding words_at
words_append b i zero n = rw (zero-add, add-zero)
words_append b i (suc m) n =
    rw suc-add (ap (λ (l : List ℕ). word_at b i ∷ l) (words_append b (i + 2) m n ∙ ap (λ (k : ℕ). words_at b (i + 2) m ++ words_at b k n) (on i m)))
  where
    on : (i m : ℕ) → i + 2 + 2 * m ≡ i + 2 * suc m
    on i m = omega arith

-- ---- the next of n words
-- what is left behind the first of them
pub one_less : (n : ℕ) → n ≡ suc n - 1
one_less n = omega arith

pub words-next : (b : List ℕ) (i n : ℕ) → 0 < n → words_at b i n ≡ word_at b i ∷ words_at b (i + 2) (n - 1)
unfolding words_at
words-next b i zero h = absurd (omega arith)
words-next b i (suc n) h = ap (λ (k : ℕ). word_at b i ∷ words_at b (i + 2) k) (one_less n)

pub words-none : (b : List ℕ) (i n : ℕ) → n ≡ 0 → words_at b i n ≡ []
unfolding words_at
words-none b i n z = rw z

-- ---- there and back
-- bytes in front move all words on
word_on : (x y : ℕ) (b : List ℕ) (i : ℕ) → word_at (x ∷ y ∷ b) (i + 2) ≡ word_at b i
unfolding word_at
word_on x y b i = rw (two i, two-one i)
  where
    two : (i : ℕ) → i + 2 ≡ suc (suc i)
    two i = omega arith

    two-one : (i : ℕ) → suc (suc i) + 1 ≡ suc (suc (i + 1))
    two-one i = omega arith

words-on : (x y : ℕ) (b : List ℕ) (i n : ℕ) → words_at (x ∷ y ∷ b) (i + 2) n ≡ words_at b i n
unfolding words_at
words-on x y b i zero = refl
words-on x y b i (suc n) = ap₂ (λ (w : ℕ) (l : List ℕ). w ∷ l) (word_on x y b i) (words-on x y b (i + 2) n)

pub read_back : (ws : List ℕ) → words_at (bytes ws) 0 (length ws) ≡ ws
unfolding words_at bytes word_at
read_back [] = refl
read_back (w ∷ ws) =
    ap₂ (λ (x : ℕ) (l : List ℕ). x ∷ l) (div-add-mod' w 256) (words-on (w / 256) (w % 256) (bytes ws) 0 (length ws) ∙ read_back ws)

pub bytes_read : (n : ℕ) (b : List ℕ) → length b ≡ 2 * n → ((i : ℕ) → get_or b i 0 < 256) → bytes (words_at b 0 n) ≡ b
unfolding words_at bytes word_at
bytes_read zero [] e h = refl
bytes_read zero (x ∷ b) e h = absurd (omega arith)
bytes_read (suc n) [] e h = absurd (omega arith)
bytes_read (suc n) (x ∷ []) e h = absurd (omega arith)
bytes_read (suc n) (x ∷ y ∷ b) e h =
    rw (digits_div x (h 1), digits_mod x (h 1), words-on x y b 0 n, bytes_read n b (omega arith) (λ i. h (suc (suc i))))

-- ---- words of bytes fit 16 bits
module _ (b : List ℕ) (h : (i : ℕ) → get_or b i 0 < 256) where
  pub word_fits : (i : ℕ) → word_at b i < 65536
  unfolding word_at
  word_fits i = omega (arith, h i, h (i + 1))

  pub words-fit : (i n k : ℕ) → get_or (words_at b i n) k 0 < 65536
  unfolding words_at
  words-fit i zero k = omega arith
  words-fit i (suc n) zero = word_fits i
  words-fit i (suc n) (suc k) = words-fit (i + 2) n k

-- ---- a column filled
-- a part written over from the start
pub paste_front : (P l : List ℕ) → pasted P 0 l ≡ P ++ drop (length P) l
unfolding pasted
paste_front P l = ap (λ (k : ℕ). P ++ drop k l) (zero-add (length P))

words-one : (b : List ℕ) (i : ℕ) → words_at b i 1 ≡ word_at b i ∷ []
unfolding words_at
words-one b i = refl

-- behind the first i words one more is stored
pub fill_next : (b : List ℕ) (at i : ℕ) (l : List ℕ) → i < length l → (w : ℕ) → w ≡ word_at b (at + 2 * i) → set (pasted (words_at b at i) 0 l) i w ≡ pasted (words_at b at (i + 1)) 0 l
fill_next b at i l h w e =
    let long : length (words_at b at i) ≡ i = length-words b at i in
    paste_one w i (pasted (words_at b at i) 0 l) (omega (arith, length-pasted (words_at b at i) 0 l (omega (arith, long))))
    ∙ paste_behind (words_at b at i) (w ∷ []) l 0 i (omega (arith, long)) (omega arith)
    ∙ ap (λ (x : List ℕ). pasted x 0 l) (ap (λ (v : ℕ). words_at b at i ++ (v ∷ [])) e ∙ sym (words_append b at i 1 ∙ rw (words-one)))
