-- The rules of rows: of two lists of rows (`ruled-append`, `ruled_cons`); no more than the rows (`ruled-few`, `length-rows`); all of 16 bits (`Passing`, `ruled-usable`) and of the rows' width (`ruled-wide`); none in a font without codes (`ruled_no_codes`).
-- Assumes nothing.
use mathlib.Core.Path.{◌≡◌, refl, ap}
use mathlib.Core.Bool.{Bool, true, false, cond}
use mathlib.Core.List.{List, [], ◌∷◌, ◌++◌, map, map-append}
use Prim.Native.Nat.{ℕ, zero, suc, ◌*◌, ◌≤◌}
use native.Mathlib.Omega.{arith}
use lib.ListN.{length, drop, length-map, length-take, length-drop}
use Rattle.laws.specs.Lists.{those}
use Rattle.laws.proofs.ListLaws.{those-append, those-fewer}
use Rattle.layouts.specs.declared.Kind.{Kind}
use Rattle.layouts.specs.Tables.{Rule}
use Rattle.layouts.proofs.SetLaws.{Wide}
use Rattle.layouts.specs.Lookups.{fits}
use Rattle.fonts.specs.Font.{Font, font_of, glyph_among}
use Rattle.synthesis.specs.Rules.{rows, asks, with_glyphs, usable, alters, ruled}

-- ---- how many rows
pub length-rows : (count n each k : ℕ) (cs ls : List ℕ) → length (rows count n each k cs ls) ≡ count
unfolding rows
length-rows zero n each k cs ls = refl
length-rows (suc count) n each k cs ls = ap suc (length-rows count n each k (drop n cs) (drop each ls))

-- ---- all elements pass a test
module _ {A : Type 0} where
  unfoldable pub Passing : (A → Bool) → List A → Type 0
  Passing p [] = Unit
  Passing p (x ∷ xs) = (p x ≡ true) × Passing p xs

  those_pass : (p : A → Bool) (l : List A) → Passing p (those p l)
  unfolding Passing
  those_pass p [] = tt
  those_pass p (x ∷ xs) = go (p x) refl (those_pass p xs)
    where
      go : (t : Bool) → p x ≡ t → Passing p (those p xs) → Passing p (cond t (x ∷ those p xs) (those p xs))
      go true e w = (e, w)
      go false e w = w

  pass_those : (p q : A → Bool) (l : List A) → Passing p l → Passing p (those q l)
  unfolding Passing
  pass_those p q [] w = tt
  pass_those p q (x ∷ xs) w = go (q x) (pass_those p q xs w.1)
    where
      go : (t : Bool) → Passing p (those q xs) → Passing p (cond t (x ∷ those q xs) (those q xs))
      go true v = (w.0, v)
      go false v = v

-- ---- rules of n components
wide-those : (n : ℕ) (q : Rule → Bool) (l : List Rule) → Wide n l → Wide n (those q l)
unfolding Wide
wide-those n q [] w = tt
wide-those n q (r ∷ rs) w = go (q r) (wide-those n q rs w.1)
  where
    go : (t : Bool) → Wide n (those q rs) → Wide n (cond t (r ∷ those q rs) (those q rs))
    go true v = (w.0, v)
    go false v = v

wide-glyphs : (n : ℕ) (f : Font) (l : List Rule) → Wide n l → Wide n (map (with_glyphs f) l)
unfolding Wide
wide-glyphs n f [] w = tt
wide-glyphs n f (r ∷ rs) w = (simp length-map w.0, wide-glyphs n f rs w.1)

wide_rows : (count n each k : ℕ) (cs ls : List ℕ) → count * n ≤ length cs → Wide n (rows count n each k cs ls)
unfolding rows Wide
wide_rows zero n each k cs ls h = tt
wide_rows (suc count) n each k cs ls h =
    (simp length-take (omega arith), wide_rows count n each k (drop n cs) (drop each ls) (simp length-drop (omega arith)))

-- ---- the rules of rows
module _ (f : Font) (kind : Kind) where
  pub ruled-append : (a b : List Rule) → ruled f kind (a ++ b) ≡ ruled f kind a ++ ruled f kind b
  unfolding ruled
  ruled-append a b = simp (those-append, map-append)

  pub ruled_cons : (row : Rule) (rest : List Rule) → ruled f kind (row ∷ rest) ≡ ruled f kind (row ∷ []) ++ ruled f kind rest
  ruled_cons row rest = ruled-append (row ∷ []) rest

  pub ruled-few : (l : List Rule) → length (ruled f kind l) ≤ length l
  unfolding ruled
  ruled-few l =
      let asked : List Rule = those (asks kind) l in
      omega
      (arith, those-fewer (alters kind) (those usable (map (with_glyphs f) asked)), those-fewer usable (map (with_glyphs f) asked), length-map asked (with_glyphs f), those-fewer (asks kind) l)

  pub ruled-usable : (l : List Rule) → Passing usable (ruled f kind l)
  unfolding ruled
  ruled-usable l =
      let asked : List Rule = map (with_glyphs f) (those (asks kind) l) in
      pass_those usable (alters kind) (those usable asked) (those_pass usable asked)

  pub ruled-wide : (count n each k : ℕ) (cs ls : List ℕ) → count * n ≤ length cs → Wide n (ruled f kind (rows count n each k cs ls))
  unfolding ruled
  ruled-wide count n each k cs ls h =
      let all : List Rule = rows count n each k cs ls in
      let asked : List Rule = those (asks kind) all in
      wide-those n (alters kind) (those usable (map (with_glyphs f) asked))
      (wide-those n usable (map (with_glyphs f) asked) (wide-glyphs n f asked (wide-those n (asks kind) all (wide_rows count n each k cs ls h))))

-- ---- a font without codes
none-usable : (glyphs : List ℕ) (l : List Rule) → those usable (map (with_glyphs (font_of [] glyphs)) l) ≡ []
unfolding fits glyph_among
none-usable glyphs [] = refl
none-usable glyphs (row ∷ rest) = none-usable glyphs rest

pub ruled_no_codes : (codes glyphs : List ℕ) → length codes ≡ 0 → (kind : Kind) (l : List Rule) → ruled (font_of codes glyphs) kind l ≡ []
unfolding ruled
ruled_no_codes [] glyphs e kind l = ap (those (alters kind)) (none-usable glyphs (those (asks kind) l))
ruled_no_codes (c ∷ codes) glyphs e kind l = absurd (omega arith)
