-- Lookups read, and words that are none, computed from the definitions: a fault is told by how many words are left at it, itself among them.
-- Assumes nothing.
use mathlib.Core.Path.{◌≡◌, refl}
use mathlib.Core.List.{List, [], ◌∷◌, ◌++◌}
use Prim.Native.Nat.{ℕ}
use Rattle.words.specs.Words.{word_at, words_at}
use Rattle.layouts.specs.declared.Kind.TheVariants.{Single, Ligature}
use Rattle.layouts.specs.Lookups.{lookup_of, flat}
use Rattle.scanning.specs.Scans.{fine, wrong, short, next, exactly, several, rise, end}
use Rattle.scanning.specs.Grammar.{single_scan, later, starts, ruled, settled, ligature_scan, scan, reading}

-- document 01: "Single (5, 7), flags 8"
abbrev starred : List ℕ
starred = 0 ∷ 1 ∷ 0 ∷ 8 ∷ 0 ∷ 1 ∷ 0 ∷ 8 ∷ 0 ∷ 2 ∷ 0 ∷ 8 ∷ 0 ∷ 1 ∷ 0 ∷ 7 ∷ 0 ∷ 1 ∷ 0 ∷ 1 ∷ 0 ∷ 5 ∷ []

read-starred : reading starred ≡ fine (lookup_of 8 Single (5 ∷ []) (7 ∷ []))
unfolding reading words_at word_at scan single_scan ligature_scan next exactly several rise end
read-starred = refl

-- a byte more
read_odd : reading (starred ++ (0 ∷ [])) ≡ wrong 0
unfolding reading words_at word_at scan single_scan ligature_scan next exactly several rise end
read_odd = refl

-- no bytes
read-nothing : reading [] ≡ short
unfolding reading words_at word_at scan single_scan ligature_scan next exactly several rise end
read-nothing = refl

-- "Equal neighbours in a single list's coverage are read in their order"
read_equal_neighbours : scan (1 ∷ 8 ∷ 1 ∷ 8 ∷ 2 ∷ 10 ∷ 2 ∷ 7 ∷ 9 ∷ 1 ∷ 2 ∷ 5 ∷ 5 ∷ []) ≡ fine (lookup_of 8 Single (5 ∷ 5 ∷ []) (7 ∷ 9 ∷ []))
unfolding scan single_scan ligature_scan next exactly several rise end
read_equal_neighbours = refl

-- the second glyph falls
read-falling : scan (1 ∷ 8 ∷ 1 ∷ 8 ∷ 2 ∷ 10 ∷ 2 ∷ 7 ∷ 9 ∷ 1 ∷ 2 ∷ 5 ∷ 4 ∷ []) ≡ wrong 1
unfolding scan single_scan ligature_scan next exactly several rise end
read-falling = refl

-- a word more
read-left-over : scan (1 ∷ 8 ∷ 1 ∷ 8 ∷ 2 ∷ 10 ∷ 2 ∷ 7 ∷ 9 ∷ 1 ∷ 2 ∷ 5 ∷ 5 ∷ 0 ∷ []) ≡ wrong 1
unfolding scan single_scan ligature_scan next exactly several rise end
read-left-over = refl

-- a word less
read-cut : scan (1 ∷ 8 ∷ 1 ∷ 8 ∷ 2 ∷ 10 ∷ 2 ∷ 7 ∷ 9 ∷ 1 ∷ 2 ∷ 5 ∷ []) ≡ short
unfolding scan single_scan ligature_scan next exactly several rise end
read-cut = refl

-- two sets of rules of 3 components, the first with two rules
read-three-components : scan (4 ∷ 8 ∷ 1 ∷ 8 ∷ 1 ∷ 10 ∷ 2 ∷ 18 ∷ 40 ∷ 1 ∷ 2 ∷ 5 ∷ 9 ∷ 2 ∷ 6 ∷ 14 ∷ 1 ∷ 3 ∷ 6 ∷ 7 ∷ 2 ∷ 3 ∷ 7 ∷ 8 ∷ 1 ∷ 4 ∷ 3 ∷ 3 ∷ 9 ∷ 9 ∷ []) ≡ fine (lookup_of 8 (Ligature 3) (5 ∷ 6 ∷ 7 ∷ 5 ∷ 7 ∷ 8 ∷ 9 ∷ 9 ∷ 9 ∷ []) (1 ∷ 2 ∷ 3 ∷ []))
unfolding scan single_scan ligature_scan next exactly several rise end later starts ruled settled flat
read-three-components = refl

-- the same, but the second set would begin a word later: at no set's end, of 2 components or of 3
read-wrong-offset : scan (4 ∷ 8 ∷ 1 ∷ 8 ∷ 1 ∷ 10 ∷ 2 ∷ 18 ∷ 42 ∷ 1 ∷ 2 ∷ 5 ∷ 9 ∷ 2 ∷ 6 ∷ 14 ∷ 1 ∷ 3 ∷ 6 ∷ 7 ∷ 2 ∷ 3 ∷ 7 ∷ 8 ∷ 1 ∷ 4 ∷ 3 ∷ 3 ∷ 9 ∷ 9 ∷ []) ≡ wrong 22
unfolding scan single_scan ligature_scan next exactly several rise end later starts ruled settled flat
read-wrong-offset = refl

-- of three sets the second begins where one more has room behind it
read-room-left : scan (4 ∷ 0 ∷ 1 ∷ 8 ∷ 1 ∷ 12 ∷ 3 ∷ 22 ∷ 65512 ∷ []) ≡ short
unfolding scan single_scan ligature_scan next exactly several rise end later starts ruled settled flat
read-room-left = refl

-- it begins where none has
read_no_room_left : scan (4 ∷ 0 ∷ 1 ∷ 8 ∷ 1 ∷ 12 ∷ 3 ∷ 22 ∷ 65528 ∷ []) ≡ wrong 1
unfolding scan single_scan ligature_scan next exactly several rise end later starts ruled settled flat
read_no_room_left = refl

-- more rules in the last set than fit
read-last-count : scan (4 ∷ 0 ∷ 1 ∷ 8 ∷ 1 ∷ 8 ∷ 1 ∷ 14 ∷ 1 ∷ 1 ∷ 5 ∷ 8193 ∷ []) ≡ wrong 1
unfolding scan single_scan ligature_scan next exactly several rise end later starts ruled settled flat
read-last-count = refl

-- two sets
read_leaders_rise : scan (4 ∷ 0 ∷ 1 ∷ 8 ∷ 1 ∷ 10 ∷ 2 ∷ 18 ∷ 28 ∷ 1 ∷ 2 ∷ 5 ∷ 6 ∷ 1 ∷ 4 ∷ 1 ∷ 2 ∷ 6 ∷ 1 ∷ 4 ∷ 2 ∷ 2 ∷ 7 ∷ []) ≡ fine (lookup_of 0 (Ligature 2) (5 ∷ 6 ∷ 6 ∷ 7 ∷ []) (1 ∷ 2 ∷ []))
unfolding scan single_scan ligature_scan next exactly several rise end later starts ruled settled flat
read_leaders_rise = refl

-- two sets with the same first glyph
read_leaders_equal : scan (4 ∷ 0 ∷ 1 ∷ 8 ∷ 1 ∷ 10 ∷ 2 ∷ 18 ∷ 28 ∷ 1 ∷ 2 ∷ 5 ∷ 5 ∷ 1 ∷ 4 ∷ 1 ∷ 2 ∷ 6 ∷ 1 ∷ 4 ∷ 2 ∷ 2 ∷ 7 ∷ []) ≡ wrong 11
unfolding scan single_scan ligature_scan next exactly several rise end later starts ruled settled flat
read_leaders_equal = refl

-- no rules
read_no_rules : scan (4 ∷ 0 ∷ 1 ∷ 8 ∷ 1 ∷ 6 ∷ 0 ∷ 1 ∷ 0 ∷ []) ≡ fine (lookup_of 0 (Ligature 2) ([]) ([]))
unfolding scan single_scan ligature_scan next exactly several rise end later starts ruled settled flat
read_no_rules = refl
