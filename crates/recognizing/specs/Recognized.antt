-- The lookup that bytes hold, by its places: `begun`, `count_at` what both kinds begin with; `lookup_at`, `end_of` the lookup of a kind, and where it ends; `Opened`, `SingleTaken`, `LigatureTaken` what scanning one answers; `Inside`, `ends_in` that a scan came to the end; `Recognizing` what bytes are recognized as.
-- Assumes nothing.
use Rattle.std.specs.Prelude.{◌≡◌, Bool, false, List, [], ◌∷◌, ℕ, ◌+◌, ◌-◌, ◌*◌, ◌/◌, ◌≤◌, ◌<◌, ltb, length, Option, None, Some, Ok, Err}
use Rattle.words.specs.Words.{word_at, words_at}
use Rattle.layouts.specs.declared.Kind.{Kind}
use Rattle.layouts.specs.declared.Kind.TheVariants.{Single, Ligature}
use Rattle.layouts.specs.Tables.{Rule}
use Rattle.layouts.specs.Lookups.{Lookup, lookup_of, flat, ligatures}
use Rattle.scanning.specs.Scans.{Rest, fine, exactly, several}
use Rattle.scanning.specs.Grammar.{headed, counted, covered, most_single, most_sets, starts, settled, reading}
use Rattle.accepting.specs.Scanned.{Scanned, Took}
use Rattle.grouping.specs.Grouped.{sets_at, end_at, leads_at}

-- ---- what both kinds begin with
abbrev pub begun : ℕ → ℕ → ℕ → ((ℕ × ℕ) → Rest) → Rest
begun type format most k = headed type (λ flags. exactly (format ∷ []) (counted most (λ n. k (flags, n))))

-- the count that the offset of the coverage says
abbrev pub count_at : List ℕ → ℕ
count_at b = (word_at b 10 - 6) / 2

-- ---- a lookup of a kind, by its places
abbrev pub rules_in : ℕ → List ℕ → List Rule
rules_in n b = sets_at n (leads_at (count_at b) b) b (18 + 4 * count_at b)

unfoldable pub lookup_at : Kind → List ℕ → Lookup
lookup_at Single b = lookup_of (word_at b 2) Single (words_at b (18 + 2 * count_at b) (count_at b)) (words_at b 14 (count_at b))
lookup_at (Ligature n) b = lookup_of (word_at b 2) (Ligature n) (flat (rules_in n b)) (ligatures (rules_in n b))

unfoldable pub end_of : Kind → List ℕ → ℕ
end_of Single b = 18 + 4 * count_at b
end_of (Ligature n) b = end_at n (leads_at (count_at b) b) b (18 + 4 * count_at b)

-- ---- what scanning one answers
-- a lookup that was taken to its end says by an offset how many numbers it has
abbrev pub Opened : Scanned → List ℕ → Type 0
Opened (Ok p) b = 6 ≤ word_at b 10
Opened (Err f) b = Unit

abbrev pub single_part : (Lookup → Rest) → Rest
single_part k = begun 1 2 most_single (λ x. several x.1 (λ substitutes. covered 0 x.1 (λ glyphs. k (lookup_of x.0 Single glyphs substitutes))))

abbrev pub SingleTaken : List ℕ → Scanned → Type 0
SingleTaken b r = Took single_part (lookup_at Single b) (end_of Single b) b 0 r

abbrev pub ligature_part : ℕ → (Lookup → Rest) → Rest
ligature_part n k =
    begun 4 1 (most_sets n) (λ x. starts n x.1 (λ os. covered 1 x.1 (λ leads. settled n leads os (λ rules. k (lookup_of x.0 (Ligature n) (flat rules) (ligatures rules))))))

abbrev pub LigatureTaken : ℕ → List ℕ → Scanned → Type 0
LigatureTaken n b r = Took (ligature_part n) (lookup_at (Ligature n) b) (end_of (Ligature n) b) b 0 r

-- a place is in the bytes
abbrev pub Inside : Scanned → ℕ → Type 0
Inside (Ok p) len = p ≤ len
Inside (Err f) len = Unit

-- no word is left
abbrev pub ends_in : Scanned → ℕ → Bool
ends_in (Ok p) len = ltb (len - p) 2
ends_in (Err f) len = false

-- ---- what bytes are recognized as
-- a lookup that fills the bytes
pub record Held (kind : Kind) (b : List ℕ) : Type 0 where
  pub said : reading b ≡ fine (lookup_at kind b)
  pub offset : 6 ≤ word_at b 10
  pub within : end_of kind b ≤ length b
  pub filled : length b < end_of kind b + 2

abbrev pub Recognizing : List ℕ → Option Kind → Type 0
Recognizing b None = (l : Lookup) → reading b ≡ fine l → ⊥
Recognizing b (Some Single) = Held Single b
Recognizing b (Some (Ligature n)) = Held (Ligature n) b × ((2 ≤ n) × (n ≤ 3))
