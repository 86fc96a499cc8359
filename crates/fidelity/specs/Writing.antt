-- What writing a lookup promises, of every lookup of either kind, by the calls' statement (`Writing` of crate layouts): `Promised` what every call promises (`Kept` of crate refusals), `PastTheAnswer`; `behind`, `changes` the numbers that differ from the one before; `size_of`, `Size` how many bytes;
-- `Lent`, `Even`, `OffsetFrom` what the limits are said of, `most_single`, `SingleLimit`, `most_in_set`, `OneSetLimit`, `most_alone`, `LoneRuleLimit` from which number on 5 is given; `format_of`, `Headed`, `covered_in`, `covered`, `Covered`, `EveryOffset` what is found by following the offsets that were written.
-- Assumes nothing.
use Rattle.std.specs.Prelude.{◌≡◌, true, cond, ◌↔◌, List, [], ◌∷◌, ℕ, ◌+◌, ◌*◌, ◌<◌, eqb, length, get_or}
use Rattle.laws.specs.Lists.{Past}
use Rattle.refusals.specs.Numbers.{said}
use Rattle.refusals.specs.Promises.{Kept}
use Rattle.words.specs.Words.{words_at}
use Rattle.layouts.specs.declared.Kind.{Kind}
use Rattle.layouts.specs.declared.Kind.TheVariants.{Single, Ligature}
use Rattle.layouts.specs.Lookups.{Lookup, lookup_of, width, known, rules, firsts}
use Rattle.layouts.specs.Written.{Written, write_rows, length_said, Writing}
use Rattle.reading.specs.Read.{type_of}
use Rattle.fidelity.specs.Followed.{coverage_at, followed}

-- What every call promises, of these two: one answer; a refusal alters no byte and answers a length of 0; the smallest number that applies is given.
abbrev pub Promised : Type 0
Promised = Kept Writing said (λ l area. write_rows l (length area)) (λ r _. length_said r ≡ 0)

-- The area past the answered length is untouched, all of it where the lookup is refused, and it neither grows nor shrinks.
abbrev pub PastTheAnswer : Type 0
PastTheAnswer = (l : Lookup) (area : List ℕ) (r : Written) (left : List ℕ) → Writing l area r left → Past (length_said r) area left

-- ---- how many bytes
-- the numbers that differ from the one before; `before` stands before the first
abbrev pub behind : ℕ → List ℕ → List ℕ
behind before [] = []
behind before (x ∷ xs) = cond (eqb before x) (behind x xs) (x ∷ behind x xs)

-- "A set starts where the first component differs from the rule before": the first number has none before it
abbrev pub changes : List ℕ → List ℕ
changes [] = []
changes (x ∷ xs) = x ∷ behind x xs

-- "18 + 4n bytes"; "18 + 6s + L × (4 + 2N) bytes for L rules"
abbrev pub size_of : Kind → ℕ → ℕ → ℕ
size_of Single count s = 18 + 4 * count
size_of (Ligature n) count s = 18 + 6 * s + count * (4 + 2 * n)

-- A lookup that is written has as many bytes as document 01 says, by its rules and by where their first components change.
abbrev pub Size : Type 0
Size = (l : Lookup) (area : List ℕ) (r : Written) (left : List ℕ) → Writing l area r left → said r ≡ 0 → length_said r ≡ size_of l.kind (length l.substitutes) (length (changes (firsts l)))

-- ---- from which number on 5 is given
-- flags and columns are lent as numbers of 16 bits
pub record Lent (l : Lookup) : Type 0 where
  pub flag : l.flags < 65536
  pub glyph : (i : ℕ) → get_or l.glyphs i 0 < 65536
  pub substitute : (i : ℕ) → get_or l.substitutes i 0 < 65536

-- the columns belong together
abbrev pub Even : Lookup → Type 0
Even l = length l.glyphs ≡ length l.substitutes * width l.kind

-- 5 is given exactly when there are over `most` rules
abbrev pub OffsetFrom : ℕ → Lookup → Type 0
OffsetFrom most l = (area : List ℕ) (r : Written) (left : List ℕ) → Writing l area r left → (said r ≡ 5) ↔ (most < length l.substitutes)

-- "n = 32,764 is written, 32,765 refused (5)"
abbrev pub most_single : ℕ
most_single = 32764

-- Of a single lookup.
abbrev pub SingleLimit : Type 0
SingleLimit = (flags : ℕ) (glyphs substitutes : List ℕ) → Lent (lookup_of flags Single glyphs substitutes) → Even (lookup_of flags Single glyphs substitutes) → OffsetFrom most_single (lookup_of flags Single glyphs substitutes)

-- "One set holds 8,192 rules for N = 2 (8,193: refusal 5), 6,554 for N = 3 (6,555: 5)"
abbrev pub most_in_set : ℕ → ℕ
most_in_set n = cond (eqb n 2) 8192 6554

-- Of a ligature lookup whose rules are one set.
abbrev pub OneSetLimit : Type 0
OneSetLimit =
    (flags n : ℕ) (components ligatures : List ℕ) → known (Ligature n) ≡ true → Lent (lookup_of flags (Ligature n) components ligatures) → Even (lookup_of flags (Ligature n) components ligatures)
    → length (changes (firsts (lookup_of flags (Ligature n) components ligatures))) ≡ 1
    → OffsetFrom (most_in_set n) (lookup_of flags (Ligature n) components ligatures)

-- "Sets of one rule with N = 2: 4,681 fit, 4,682 do not"; with N = 3, 4,096 fit
abbrev pub most_alone : ℕ → ℕ
most_alone n = cond (eqb n 2) 4681 4096

-- Of a ligature lookup each of whose rules is a set of its own.
abbrev pub LoneRuleLimit : Type 0
LoneRuleLimit =
    (flags n : ℕ) (components ligatures : List ℕ) → known (Ligature n) ≡ true → Lent (lookup_of flags (Ligature n) components ligatures) → Even (lookup_of flags (Ligature n) components ligatures)
    → changes (firsts (lookup_of flags (Ligature n) components ligatures)) ≡ firsts (lookup_of flags (Ligature n) components ligatures)
    → OffsetFrom (most_alone n) (lookup_of flags (Ligature n) components ligatures)

-- ---- what is found in the bytes
abbrev pub format_of : Kind → ℕ
format_of Single = 2
format_of (Ligature n) = 1

-- The area begins with OpenType's lookup type, the flags, one subtable, which begins at byte 8, and its format.
abbrev pub Headed : Type 0
Headed =
    (l : Lookup) (area : List ℕ) (r : Written) (left : List ℕ) → Writing l area r left → said r ≡ 0
    → words_at left 0 5 ≡ type_of l.kind ∷ l.flags ∷ 1 ∷ 8 ∷ format_of l.kind ∷ []

-- the glyphs of the coverage: of a single lookup all, of a ligature lookup the first of each set
abbrev pub covered_in : Kind → List ℕ → List ℕ
covered_in Single glyphs = glyphs
covered_in (Ligature n) glyphs = changes glyphs

abbrev pub covered : Lookup → List ℕ
covered l = covered_in l.kind (firsts l)

-- Following the coverage's offset finds it, in format 1.
abbrev pub Covered : Type 0
Covered =
    (l : Lookup) (area : List ℕ) (r : Written) (left : List ℕ) → Writing l area r left → said r ≡ 0
    → words_at left (coverage_at left) (2 + length (covered l)) ≡ 1 ∷ length (covered l) ∷ covered l

-- Following every offset, as OpenType's tables say, finds every rule of the list, in its order: its glyphs and what stands for them.
abbrev pub EveryOffset : Type 0
EveryOffset =
    (l : Lookup) (area : List ℕ) (r : Written) (left : List ℕ) → Writing l area r left → said r ≡ 0
    → followed left ≡ rules (width l.kind) l.glyphs l.substitutes
