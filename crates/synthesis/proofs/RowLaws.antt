-- The rule of one row: of a shaping row, by what the search for its two glyphs answers (`single_zero`, `single_no_form`, `single_no_glyph`, `single_equal`, `single-made`); of a ligature row, whose components have these glyphs (`glyphs_at`, `length-glyphs`, `glyph-of`) and are packed from the last on (`Packing`, `packing_begins`, `packing_next`, `packing_fits`, `packing_stops`, `packing_ends`, `ligature_missing`); put at a place of a column (`keep_one`, `keep-none`).
-- Assumes nothing.
use mathlib.Core.Path.{◌≡◌, refl, sym, ap, ap₂, ◌∙◌}
use mathlib.Core.Bool.{Bool, true, false}
use mathlib.Core.List.{List, [], ◌∷◌, map}
use Prim.Native.Nat.{ℕ, ◌+◌, ◌*◌, ◌≤◌, ◌<◌}
use native.Mathlib.Omega.{arith}
use borrow.Author.Tests.{eq-eqb, ne_eqb, lt-ltb, le-ltb}
use lib.ListN.{length, get_or, take, drop, set, length-map, length-drop, drop_of_length-le}
use lib.Seq.{get_or-take, get_or-drop, length-take-le}
use Rattle.std.proofs.lemmas.List.{get_or-map}
use Rattle.laws.specs.Lists.{pasted}
use Rattle.laws.proofs.LoopLaws.{drop-next}
use Rattle.laws.proofs.PasteLaws.{paste_one, paste_none}
use Rattle.layouts.specs.declared.Kind.TheVariants.{Single, Ligature}
use Rattle.layouts.specs.Lookups.{fits}
use Rattle.layouts.proofs.FitLaws.{fits_head, fits-at}
use Rattle.fonts.specs.Font.{Font, glyph_of}
use Rattle.packing.specs.Packed.{packed}
use Rattle.packing.proofs.PackLaws.{pack-bound}
use Rattle.synthesis.specs.Rules.{ruled}
use Rattle.synthesis.specs.Made.{packed_in, row_of, pair, gives}
use Rattle.std.specs.Prelude.{Option, Some, None}

-- ---- a shaping row
module _ (f : Font) (code form : ℕ) where
  pub single_zero : form ≡ 0 → [] ≡ gives f Single (pair code form)
  unfolding ruled
  single_zero e = rw (eq-eqb form 0 e)

  module _ (h : form ≡ 0 → ⊥) where
    pub single_no_form : 65536 ≤ glyph_of f form → [] ≡ gives f Single (pair code form)
    unfolding ruled fits
    single_no_form m = rw (ne_eqb form 0 h, le-ltb (glyph_of f form) 65536 m)

    module _ {s : ℕ} (p : (s ≡ glyph_of f form) × (glyph_of f form < 65536)) where
      pub single_no_glyph : 65536 ≤ glyph_of f code → [] ≡ gives f Single (pair code form)
      unfolding ruled fits
      single_no_glyph m = rw (ne_eqb form 0 h, lt-ltb (glyph_of f form) 65536 p.1, le-ltb (glyph_of f code) 65536 m)

      module _ {g : ℕ} (q : (g ≡ glyph_of f code) × (glyph_of f code < 65536)) where
        pub single_equal : g ≡ s → [] ≡ gives f Single (pair code form)
        unfolding ruled fits
        single_equal e =
            rw (ne_eqb form 0 h, lt-ltb (glyph_of f form) 65536 p.1, lt-ltb (glyph_of f code) 65536 q.1, ← p.0, ← q.0, eq-eqb g s e)

        pub single-made : (g ≡ s → ⊥) → (s * 65536 + g) ∷ [] ≡ gives f Single (pair code form)
        unfolding ruled fits
        single-made e =
            let z : s * 65536 + g ≡ g + 65536 * s = omega arith in
            rw (ne_eqb form 0 h, lt-ltb (glyph_of f form) 65536 p.1, lt-ltb (glyph_of f code) 65536 q.1, ← p.0, ← q.0, ne_eqb g s e, z)

-- ---- a ligature row
-- the glyphs of n components from a place on
abbrev pub glyphs_at : Font → ℕ → List ℕ → ℕ → List ℕ
glyphs_at f n cs at = map (glyph_of f) (take n (drop at cs))

-- the components from place k of the row on are packed
pub record Packing (f : Font) (n : ℕ) (cs : List ℕ) (at target k x : ℕ) : Type 0 where
  pub within : k ≤ n
  pub fit : fits (drop k (glyphs_at f n cs at)) ≡ true
  pub made : x ≡ packed (drop k (glyphs_at f n cs at)) target

module _ (f : Font) (n : ℕ) (cs : List ℕ) (at : ℕ) (room : at + n ≤ length cs) where
  pub length-glyphs : length (glyphs_at f n cs at) ≡ n
  length-glyphs = length-map (take n (drop at cs)) (glyph_of f) ∙ length-take-le n (drop at cs) (simp length-drop (omega arith))

  pub glyph-of : (j : ℕ) → j < n → get_or (glyphs_at f n cs at) j 0 ≡ glyph_of f (get_or cs (at + j) 0)
  glyph-of j h =
      get_or-map (glyph_of f) (take n (drop at cs)) j 0 0 (omega (arith, length-take-le n (drop at cs) (simp length-drop (omega arith))))
      ∙ ap (glyph_of f) (get_or-take n (drop at cs) j 0 h ∙ get_or-drop at cs j 0)

  pub packing_begins : (target : ℕ) → Packing f n cs at target n target
  unfolding fits
  packing_begins target =
      let none : drop n (glyphs_at f n cs at) ≡ [] = drop_of_length-le (glyphs_at f n cs at) {i = n} (omega (arith, length-glyphs)) in
      record { within = omega arith; fit = rw none; made = rw none }

  module _ {target k x : ℕ} (p : Packing f n cs at target k x) where
    pub packing_fits : target < 65536 → n ≤ 3 → x < 18446744073709551616
    unfolding fits
    packing_fits l h =
        rw p.made
        (pack-bound (drop k (glyphs_at f n cs at)) target (rw (lt-ltb target 65536 l) p.fit)
        (simp length-drop (omega (arith, length-glyphs))))

    module _ (j : ℕ) (e : k ≡ j + 1) where
      pub packing_next : {g : ℕ} → (g ≡ glyph_of f (get_or cs (at + j) 0)) × (glyph_of f (get_or cs (at + j) 0) < 65536) → Packing f n cs at target j (x * 65536 + g)
      unfolding fits
      packing_next {g} q =
          let G : List ℕ = glyphs_at f n cs at in
          let there : j < n = omega (arith, p.within) in
          let here : get_or G j 0 ≡ g = glyph-of j there ∙ sym q.0 in
          let next : drop j G ≡ g ∷ drop k G = drop-next G j 0 (omega (arith, length-glyphs)) ∙ ap₂ (λ (y : ℕ) (i : ℕ). y ∷ drop i G) here (sym e) in
          record {
            within = omega arith;
            fit = rw (next, lt-ltb g 65536 (omega (arith, q.0, q.1))) p.fit;
            made = rw next (omega (arith, p.made));
          }

      -- a component that has no glyph
      pub packing_stops : (ligature : ℕ) → 65536 ≤ glyph_of f (get_or cs (at + j) 0) → [] ≡ gives f (Ligature n) (row_of n cs at ligature)
      unfolding ruled
      packing_stops ligature h =
          let G : List ℕ = glyphs_at f n cs at in
          let there : j < n = omega (arith, p.within) in
          go (fits (glyph_of f ligature ∷ G)) refl (omega (arith, glyph-of j there, h))
        where
          go : (t : Bool) → fits (glyph_of f ligature ∷ glyphs_at f n cs at) ≡ t → 65536 ≤ get_or (glyphs_at f n cs at) j 0 → [] ≡ gives f (Ligature n) (row_of n cs at ligature)
          go true u m = absurd (omega (arith, fits-at (glyphs_at f n cs at) (fits_head (glyph_of f ligature) (glyphs_at f n cs at) u).1 j))
          go false u m = rw u

    pub packing_ends : (ligature : ℕ) → k ≤ 0 → (target ≡ glyph_of f ligature) × (glyph_of f ligature < 65536) → x ∷ [] ≡ gives f (Ligature n) (row_of n cs at ligature)
    unfolding ruled fits
    packing_ends ligature z q =
        let e : k ≡ 0 = omega arith in
        let whole : fits (glyphs_at f n cs at) ≡ true = rw e at p.fit in
        let made : x ≡ packed (glyphs_at f n cs at) target = rw e at p.made in
        rw (lt-ltb (glyph_of f ligature) 65536 q.1, whole, made, q.0)

-- the ligature has no glyph
pub ligature_missing : (f : Font) (n : ℕ) (cs : List ℕ) (at ligature : ℕ) → 65536 ≤ glyph_of f ligature → [] ≡ gives f (Ligature n) (row_of n cs at ligature)
unfolding ruled fits
ligature_missing f n cs at ligature m = rw (le-ltb (glyph_of f ligature) 65536 m)

-- ---- what a row gives is put at a place of a column
pub keep_one : (l : List ℕ) (at : ℕ) {row : Option ℕ} {x : ℕ} → row ≡ Some x → at < length l → (set l at x ≡ pasted (packed_in row) at l) × (at + 1 ≡ at + length (packed_in row))
keep_one l at {row} {x} e h = rw e (paste_one x at l h, refl)

pub keep-none : (l : List ℕ) (at : ℕ) {row : Option ℕ} → row ≡ None → (l ≡ pasted (packed_in row) at l) × (at ≡ at + length (packed_in row))
keep-none l at e = rw e (sym (paste_none at l), omega arith)
