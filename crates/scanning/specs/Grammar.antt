-- Which words are a lookup (document 01, "Reading back"): word by word, each with the values that the words before it leave to it, so that the place of the first word that cannot stand is known. `single_scan`, `ligature_scan` a lookup of each kind, `scan` of any;
-- `most_single`, `most_rules`, `most_sets` the limits that the 16 bits of an offset set; `reading` what bytes say.
-- Assumes nothing.
use Rattle.std.specs.Prelude.{Bool, cond, ◌&&◌, List, [], ◌∷◌, ◌++◌, ℕ, zero, suc, ◌+◌, ◌-◌, ◌*◌, ◌/◌, ◌%◌, eqb, leb, ltb, length}
use Rattle.words.specs.Words.{words_at}
use Rattle.layouts.specs.declared.Kind.TheVariants.{Single, Ligature}
use Rattle.layouts.specs.Tables.{Rule, evenly}
use Rattle.layouts.specs.Lookups.{lookup_of, flat, ligatures}
use Rattle.scanning.specs.Scans.{Scan, Rest, fine, wrong, short, next, any, exactly, several, rise, end, further}

-- Lookup: a type, any flags, one subtable, which begins at byte 8
abbrev pub headed : ℕ → (ℕ → Rest) → Rest
headed type k = exactly (type ∷ []) (next any (λ flags. exactly (1 ∷ 8 ∷ []) (k flags)))

-- where the coverage begins, which is behind `count` numbers, at most `most`, and the count itself
abbrev pub counted : ℕ → (ℕ → Rest) → Rest
counted most k =
    next (λ o. eqb (6 + 2 * ((o - 6) / 2)) o && leb ((o - 6) / 2) most)
    (λ o. exactly ((o - 6) / 2 ∷ []) (k ((o - 6) / 2)))

-- CoverageFormat1 of n glyphs
abbrev pub covered : ℕ → ℕ → (List ℕ → Rest) → Rest
covered apart n k = exactly (1 ∷ n ∷ []) (rise apart n 0 k)

-- ---- single: glyphs that are at least `apart` apart, 0 for "do not fall"
abbrev pub most_single : ℕ
most_single = 32764

unfoldable pub single_scan : ℕ → Rest
single_scan apart =
    headed 1 (λ flags.
    exactly (2 ∷ []) (counted most_single (λ n.
    several n (λ substitutes.
    covered apart n (λ glyphs.
    end (lookup_of flags Single glyphs substitutes))))))

-- ---- ligature, with n components
-- the bytes of a set of c rules
abbrev pub set_size : ℕ → ℕ → ℕ
set_size n c = 2 + c * (4 + 2 * n)

-- the most rules of a set, so that the last one's offset is of 16 bits; and the most sets, likewise
abbrev pub most_rules : ℕ → ℕ
most_rules n = (65535 + 2 * n) / (4 + 2 * n)

abbrev pub most_sets : ℕ → ℕ
most_sets n = (65531 + 2 * n) / (10 + 2 * n)

-- a number of bytes that is a set's
abbrev pub is_size_lem : ℕ → ℕ → Bool
is_size_lem n x = eqb (set_size n ((x - 2) / (4 + 2 * n))) x && (leb 1 ((x - 2) / (4 + 2 * n)) && leb ((x - 2) / (4 + 2 * n)) (most_rules n))

-- where the sets behind one at byte o begin: each a set's size behind the one before, with room for those to come
unfoldable pub later : ℕ → ℕ → ℕ → (List ℕ → Rest) → Rest
later n zero o k = k []
later n (suc left) o k = next (λ w. is_size_lem n (w - o) && ltb (w + left * set_size n 1) 65536) (λ w. later n left w (λ os. k (w ∷ os)))

-- where the sets begin, the first behind the coverage
unfoldable pub starts : ℕ → ℕ → (List ℕ → Rest) → Rest
starts n zero k = k []
starts n (suc s) k = exactly ((10 + 4 * suc s) ∷ []) (later n s (10 + 4 * suc s) (λ os. k ((10 + 4 * suc s) ∷ os)))

-- c rules that begin with the glyph `lead`
unfoldable pub ruled : ℕ → ℕ → ℕ → (List Rule → Rest) → Rest
ruled n lead zero k = k []
ruled n lead (suc c) k =
    next any (λ ligature. exactly (n ∷ []) (several (n - 1) (λ others.
    ruled n lead c (λ set. k (record { components = lead ∷ others; ligature = ligature } ∷ set)))))

-- behind its count, a set's offsets and rules
abbrev pub grouped : ℕ → ℕ → ℕ → (List Rule → Rest) → Rest
grouped n lead c k = exactly (evenly c (2 + 2 * c) (2 + 2 * n)) (ruled n lead c k)

-- the sets, by their first glyphs and by where they begin: each ends where the next begins, and the last has any count that fits
unfoldable pub settled : ℕ → List ℕ → List ℕ → (List Rule → Rest) → Rest
settled n [] os k = k []
settled n (lead ∷ leads) [] k = k []
settled n (lead ∷ leads) (o ∷ []) k = next (λ c. leb 1 c && leb c (most_rules n)) (λ c. grouped n lead c k)
settled n (lead ∷ leads) (o ∷ (p ∷ os)) k =
    next (λ c. eqb (o + set_size n c) p) (λ c. grouped n lead c (λ set. settled n leads (p ∷ os) (λ sets. k (set ++ sets))))

unfoldable pub ligature_scan : ℕ → Rest
ligature_scan n =
    headed 4 (λ flags.
    exactly (1 ∷ []) (counted (most_sets n) (λ s.
    starts n s (λ os.
    covered 1 s (λ leads.
    settled n leads os (λ rules.
    end (lookup_of flags (Ligature n) (flat rules) (ligatures rules))))))))

-- ---- of any kind: "An empty ligature list has the same bytes for both component numbers and reads with 2"
unfoldable pub scan : Rest
scan ws = further (single_scan 0 ws) (further (ligature_scan 2 ws) (ligature_scan 3 ws))

-- bytes are read as words; of an odd number of bytes one is left over behind the last word
abbrev pub left_over : Scan → Scan
left_over (fine l) = wrong 0
left_over (wrong n) = wrong n
left_over short = short

unfoldable pub reading : List ℕ → Scan
reading b = cond (eqb (length b % 2) 0) (scan (words_at b 0 (length b / 2))) (left_over (scan (words_at b 0 (length b / 2))))
