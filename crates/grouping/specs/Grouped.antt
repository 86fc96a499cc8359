-- The rules that the bytes of a ligature lookup hold, by their places: `rule_at`, `rules_at` those of a set; `starts_at` where the sets begin, `may_have_lem` how many rules they may have; `sets_at`, `end_at` those of all sets, and where the last ends; what scanning these answers (`RuleTaken`, `RulesTaken`, `SetTaken`, whichever glyph they begin with; `leads_at`, `SetsTaken`).
-- Assumes nothing.
use Rattle.std.specs.Prelude.{Bool, ◌&&◌, List, [], ◌∷◌, ◌++◌, ℕ, zero, suc, ◌+◌, ◌-◌, ◌*◌, eqb, leb}
use Rattle.words.specs.Words.{word_at, words_at}
use Rattle.layouts.specs.Tables.{Rule}
use Rattle.scanning.specs.Scans.{Rest, next, any, exactly, several}
use Rattle.scanning.specs.Grammar.{set_size, most_rules, ruled, grouped, settled}
use Rattle.accepting.specs.Scanned.{Scanned, Took}

-- the rule at byte p, of n components, the first of which is `lead`
unfoldable pub rule_at : ℕ → ℕ → List ℕ → ℕ → Rule
rule_at n lead b p = record { components = lead ∷ words_at b (p + 4) (n - 1); ligature = word_at b p }

-- c rules, the first at byte p
unfoldable pub rules_at : ℕ → ℕ → ℕ → List ℕ → ℕ → List Rule
rules_at n lead zero b p = []
rules_at n lead (suc c) b p = rule_at n lead b p ∷ rules_at n lead c b (p + (2 + 2 * n))

-- where s sets begin: the first at byte o, the others as said from byte p on
unfoldable pub starts_at : ℕ → ℕ → List ℕ → ℕ → List ℕ
starts_at o zero b p = []
starts_at o (suc s) b p = o ∷ words_at b p s

-- whether a set at byte o may have c rules: it ends where the next begins, and the last has any count that fits
unfoldable pub may_have_lem : ℕ → ℕ → List ℕ → ℕ → Bool
may_have_lem n o [] c = leb 1 c && leb c (most_rules n)
may_have_lem n o (p ∷ others) c = eqb (o + set_size n c) p

-- the rules of sets, by their first glyphs; the first set at byte p
unfoldable pub sets_at : ℕ → List ℕ → List ℕ → ℕ → List Rule
sets_at n [] b p = []
sets_at n (lead ∷ leads) b p = rules_at n lead (word_at b p) b (p + 2 + 2 * word_at b p) ++ sets_at n leads b (p + set_size n (word_at b p))

-- the byte behind the last set
unfoldable pub end_at : ℕ → List ℕ → List ℕ → ℕ → ℕ
end_at n [] b p = p
end_at n (lead ∷ leads) b p = end_at n leads b (p + set_size n (word_at b p))

-- ---- one rule
abbrev pub one_rule : ℕ → ℕ → (Rule → Rest) → Rest
one_rule n lead k = next any (λ ligature. exactly (n ∷ []) (several (n - 1) (λ others. k (record { components = lead ∷ others; ligature = ligature }))))

-- ---- what scanning answers, whichever glyph the rules begin with
abbrev pub RuleTaken : ℕ → List ℕ → ℕ → Scanned → Type 0
RuleTaken n b p r = (lead : ℕ) → Took (one_rule n lead) (rule_at n lead b p) (p + (2 + 2 * n)) b p r

abbrev pub RulesTaken : ℕ → ℕ → List ℕ → ℕ → Scanned → Type 0
RulesTaken n c b p r = (lead : ℕ) → Took (ruled n lead c) (rules_at n lead c b p) (p + c * (2 + 2 * n)) b p r

abbrev pub SetTaken : ℕ → ℕ → List ℕ → ℕ → Scanned → Type 0
SetTaken n c b p r = (lead : ℕ) → Took (grouped n lead c) (rules_at n lead c b (p + 2 * c)) (p + c * (4 + 2 * n)) b p r

-- s sets, whose first glyphs stand from byte 18 + 2 s on
abbrev pub leads_at : ℕ → List ℕ → List ℕ
leads_at s b = words_at b (18 + 2 * s) s

abbrev pub SetsTaken : ℕ → ℕ → List ℕ → Scanned → Type 0
SetsTaken n s b r =
    Took (settled n (leads_at s b) (starts_at (10 + 4 * s) s b 16)) (sets_at n (leads_at s b) b (18 + 4 * s)) (end_at n (leads_at s b) b (18 + 4 * s)) b (18 + 4 * s) r
