-- How many bytes a lookup takes: a single one by the number of its glyphs (`size-single`), a ligature lookup by the numbers of its sets and of its rules, for any number of components (`size-ligature`).
-- How many rules two columns hold (`length-rules`), and sets (`rules_in`), all of them (`rules_in-sets`); as many offsets as blocks (`length-offsets`).
-- Assumes nothing.
use mathlib.Core.Path.{◌≡◌, refl, ap, ◌∙◌}
use mathlib.Core.Bool.{Bool, true, false, cond}
use mathlib.Core.List.{List, [], ◌∷◌, ◌++◌, map}
use Prim.Native.Nat.{ℕ, suc, ◌+◌, ◌*◌, ◌<◌}
use native.Mathlib.Omega.{arith}
use lib.Dec.{eqb}
use lib.ListN.{length, drop, length-append, length-map}
use Rattle.layouts.specs.Tables.{Rule, first, leader, onto, sets, offsets, joined, coverage, single, set_words, ligature_of, ligature}
use Rattle.layouts.specs.Lookups.{rules}
use Rattle.layouts.proofs.SetLaws.{Wide, Grouped, grouped, set-size}

-- "18 + 4n bytes"
pub size-single : (flags : ℕ) (gs ss : List ℕ) → length gs ≡ length ss → 2 * length (single flags gs ss) ≡ 18 + 4 * length ss
unfolding single
size-single flags gs ss e = omega (arith, length-append ss (coverage gs))

-- ---- rules of two columns, and in sets
pub length-rules : (n : ℕ) (components ligatures : List ℕ) → length (rules n components ligatures) ≡ length ligatures
unfolding rules
length-rules n components [] = refl
length-rules n components (l ∷ ligatures) = ap suc (length-rules n (drop n components) ligatures)

abbrev pub rules_in : List (List Rule) → ℕ
rules_in [] = 0
rules_in (g ∷ gs) = length g + rules_in gs

pub rules_in-sets : (rs : List Rule) → rules_in (sets rs) ≡ length rs
unfolding sets
rules_in-sets [] = refl
rules_in-sets (r ∷ rs) = go (sets rs) ∙ ap suc (rules_in-sets rs)
  where
    go : (gs : List (List Rule)) → rules_in (onto r gs) ≡ suc (rules_in gs)
    go [] = refl
    go (g ∷ gs) = same (eqb (first r) (leader g))
      where
        same : (t : Bool) → rules_in (cond t ((r ∷ g) ∷ gs) ((r ∷ []) ∷ g ∷ gs)) ≡ suc (length g + rules_in gs)
        same true = omega arith
        same false = omega arith

-- ---- a ligature lookup
pub length-offsets : (o : ℕ) (blocks : List (List ℕ)) → length (offsets o blocks) ≡ length blocks
unfolding offsets
length-offsets o [] = refl
length-offsets o (b ∷ blocks) = ap suc (length-offsets (o + 2 * length b) blocks)

module _ (n : ℕ) (low : 0 < n) where
  pub size-sets : (gs : List (List Rule)) → Grouped n gs → 2 * length (joined (map (set_words n) gs)) ≡ 2 * length gs + rules_in gs * (4 + 2 * n)
  unfolding Grouped joined
  size-sets [] k = omega arith
  size-sets (g ∷ gs) k = simp length-append (omega (arith, set-size n low g k.1, size-sets gs k.2))

  size_groups : (flags : ℕ) (gs : List (List Rule)) → Grouped n gs → 2 * length (ligature_of flags n gs) ≡ 18 + 6 * length gs + rules_in gs * (4 + 2 * n)
  unfolding ligature_of
  size_groups flags gs k =
      let blocks : List (List ℕ) = map (set_words n) gs in
      omega (
        arith,
        length-append (offsets (10 + 4 * length gs) blocks) (coverage (map leader gs) ++ joined blocks),
        length-append (map leader gs) (joined blocks),
        length-offsets (10 + 4 * length gs) blocks,
        length-map gs (set_words n),
        length-map gs leader,
        size-sets gs k,
      )

  -- "18 + 6s + L × (4 + 2N) bytes for L rules"
  pub size-ligature : (flags : ℕ) (rs : List Rule) → Wide n rs → 2 * length (ligature flags n rs) ≡ 18 + 6 * length (sets rs) + length rs * (4 + 2 * n)
  unfolding ligature
  size-ligature flags rs w = size_groups flags (sets rs) (grouped n rs w) ∙ rw (rules_in-sets rs)
