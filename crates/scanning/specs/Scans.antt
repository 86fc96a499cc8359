-- Words taken one by one: `Scan` what comes of it; `next` one word, which must pass a test; `exactly` these very words; `several` so many words of any value; `rise` so many glyphs that rise; `end` no word more; `further` of two ways to go on the one that comes further.
-- Assumes nothing.
use Rattle.std.specs.Prelude.{Bool, true, cond, ◌&&◌, List, [], ◌∷◌, ℕ, zero, suc, min, ◌+◌, ◌*◌, eqb, leb, ltb, length}
use Rattle.layouts.specs.Lookups.{Lookup}

-- every word can stand, and they say this lookup; a word cannot stand, and so many words are left, it among them (0 where a single byte is left over); the words end too soon
pub data Scan : Type 0 where
  fine : Lookup → Scan
  wrong : (left : ℕ) → Scan
  short : Scan

-- what becomes of the words that are left
abbrev pub Rest : Type 0
Rest = List ℕ → Scan

-- one word that passes the test; what follows may depend on it
unfoldable pub next : (ℕ → Bool) → (ℕ → Rest) → Rest
next test k [] = short
next test k (w ∷ ws) = cond (test w) (k w ws) (wrong (suc (length ws)))

-- a word of any value
abbrev pub any : ℕ → Bool
any w = true

unfoldable pub exactly : List ℕ → Rest → Rest
exactly [] k = k
exactly (x ∷ xs) k = next (eqb x) (λ w. exactly xs k)

unfoldable pub several : ℕ → (List ℕ → Rest) → Rest
several zero k = k []
several (suc n) k = next any (λ w. several n (λ ws. k (w ∷ ws)))

-- n glyphs, the first at least `low`, each other at least `apart` more than the one before it; each leaves room for those behind it
unfoldable pub rise : ℕ → ℕ → ℕ → (List ℕ → Rest) → Rest
rise apart zero low k = k []
rise apart (suc n) low k = next (λ w. leb low w && ltb (w + apart * n) 65536) (λ w. rise apart n (w + apart) (λ ws. k (w ∷ ws)))

unfoldable pub end : Lookup → Rest
end l [] = fine l
end l (w ∷ ws) = wrong (suc (length ws))

-- of two scans of the same words the one that is fine; else the one that comes further
abbrev or_short : Scan → Scan
or_short (fine l) = fine l
or_short (wrong n) = short
or_short short = short

abbrev or_wrong : ℕ → Scan → Scan
or_wrong m (fine l) = fine l
or_wrong m (wrong n) = wrong (min m n)
or_wrong m short = short

abbrev pub further : Scan → Scan → Scan
further (fine l) other = fine l
further short other = or_short other
further (wrong m) other = or_wrong m other
