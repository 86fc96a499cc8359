-- Records laid in the order of the work. Of one column: nothing laid alters nothing, one record is one element stored, a list laid is its parts laid one after the other, and columns keep their lengths; then of all seven (`laid_none`, `laid_one`, `laid_then`, `roomy-laid`);
-- a part of the line copied (`copied_part`); all m records laid (`laid-whole`).
-- Assumes nothing.
use mathlib.Core.Path.{◌≡◌, refl, sym, ap, ap₂, ◌∙◌}
use mathlib.Core.Bool.{Bool, true, false}
use mathlib.Core.List.{List, [], ◌∷◌, ◌++◌, map, map-append, reverse, reverse-append}
use Prim.Native.Nat.{ℕ, ◌+◌, ◌-◌, ◌≤◌, ◌<◌}
use native.Mathlib.Omega.{arith}
use lib.ListN.{length, take, drop, set, length-append, length-map, length-drop}
use lib.Seq.{slice, length-take-le}
use Rattle.laws.specs.Lists.{pasted}
use Rattle.laws.proofs.PartLaws.{take-map, drop-map}
use Rattle.laws.proofs.PasteLaws.{length-pasted, paste_none, paste_one, paste_behind, paste_before}
use Rattle.runs.specs.Records.{Record, Columns, columns, line_of}
use Rattle.runs.specs.Stretched.{in_order, part_of, work}
use Rattle.runs.proofs.RecordLaws.{length_in_order, order-none, order-one, part_in_order, map_in_order, part-fits, length-line, column_of}
use Rattle.copying.specs.Pasted.{pasted_all, EvenLine, Roomy}
use Rattle.laying.specs.Laid.{laid_on, laid}
use Rattle.copying.proofs.ColumnsLaws.{columns-same, SameLengths}

module _ {A : Type 0} (f : Record → A) (rtl : Bool) (m : ℕ) where
  -- as many elements as records
  length_laying : (l : List Record) → length (in_order rtl (map f l)) ≡ length l
  length_laying l = length_in_order rtl (map f l) ∙ length-map l f

  pub length-laid-on : (k : ℕ) (l : List Record) (column : List A) → k + length l ≤ m → m ≤ length column → length (laid_on f rtl m k l column) ≡ length column
  unfolding laid_on
  length-laid-on k l column h g =
      length-pasted (in_order rtl (map f l)) (part_of rtl m k (length l)) column (omega (arith, length_laying l, part-fits rtl m k (length l) h))

  laid-on-none : (k : ℕ) (column : List A) → laid_on f rtl m k [] column ≡ column
  unfolding laid_on
  laid-on-none k column = ap (λ (p : List A). pasted p (part_of rtl m k 0) column) (order-none rtl) ∙ paste_none (part_of rtl m k 0) column

  laid-on-one : (k i : ℕ) (r : Record) (column : List A) → k < m → m ≤ length column → i ≡ part_of rtl m k 1 → set column i (f r) ≡ laid_on f rtl m k (r ∷ []) column
  unfolding laid_on
  laid-on-one k i r column h g e =
      paste_one (f r) i column (omega (arith, part-fits rtl m k 1 (omega arith)))
      ∙ ap₂ (λ (p : List A) (j : ℕ). pasted p j column) (sym (order-one rtl (f r))) e

laid-on-then :
    {A : Type 0} (f : Record → A) (rtl : Bool) (m k j : ℕ) (us vs : List Record) (column : List A) → j ≡ k + length us → j + length vs ≤ m → m ≤ length column
    → laid_on f rtl m k (us ++ vs) column ≡ laid_on f rtl m j vs (laid_on f rtl m k us column)
unfolding laid_on in_order part_of
laid-on-then {A} f true m k j us vs column e h g =
    let nu = length_laying f true m us in
    let nv = length_laying f true m vs in
    let i : ℕ = m - j - length vs in
    let o : ℕ = m - k - length us in
    let all : reverse (map f (us ++ vs)) ≡ reverse (map f vs) ++ reverse (map f us) = ap reverse (map-append f us vs) ∙ reverse-append (map f us) (map f vs) in
    let there : m - k - length (us ++ vs) ≡ i = omega (arith, length-append us vs) in
    ap₂ (λ (p : List A) (n : ℕ). pasted p n column) all there
    ∙ sym (paste_before (reverse (map f vs)) (reverse (map f us)) column i o (omega (arith, nv)) (omega (arith, nu)))
laid-on-then {A} f false m k j us vs column e h g =
    ap (λ (p : List A). pasted p k column) (map-append f us vs)
    ∙ sym (paste_behind (map f us) (map f vs) column k j (omega (arith, length-map us f)) (omega (arith, length-map vs f)))

-- all m records laid
pub laid-on-whole : {A : Type 0} (f : Record → A) (rtl : Bool) (m : ℕ) (l : List Record) (column : List A) → length l ≡ m → laid_on f rtl m 0 l column ≡ map f (in_order rtl l) ++ drop m column
unfolding laid_on pasted part_of
laid-on-whole {A} f rtl m l column e =
    let start : part_of rtl m 0 (length l) ≡ 0 = at rtl in
    ap (λ (i : ℕ). pasted (in_order rtl (map f l)) i column) start
    ∙ ap₂ (λ (p : List A) (n : ℕ). p ++ drop n column) (sym (map_in_order f rtl l)) (let k : 0 + length (in_order rtl (map f l)) ≡ m = omega (arith, length_laying f rtl m l) in k)
  where
    at : (rtl : Bool) → part_of rtl m 0 (length l) ≡ 0
    at true = omega arith
    at false = refl

-- a part of the line, copied to where it comes in the order of the work
pub copied_on :
    {A : Type 0} (f : Record → A) (rtl : Bool) (m at : ℕ) (c : Columns) (source column : List A) → map f (line_of c) ≡ source
    → (k s i o : ℕ) → k + s ≤ length c.actions → i ≡ part_of rtl (length c.actions) k s → o ≡ part_of rtl m at s
    → pasted (slice i (i + s) source) o column ≡ laid_on f rtl m at (take s (drop k (work rtl c))) column
unfolding laid_on work
copied_on {A} f rtl m at c source column e k s i o h ei eo =
    let n : length (map f (line_of c)) ≡ length c.actions = length-map (line_of c) f ∙ length-line c in
    let fits : k + s ≤ length (map f (line_of c)) = rw n h in
    let there : i ≡ part_of rtl (length (map f (line_of c))) k s = ei ∙ ap (λ (j : ℕ). part_of rtl j k s) (sym n) in
    let part : slice i (i + s) source ≡ in_order rtl (map f (take s (drop k (in_order rtl (line_of c))))) =
    ap (slice i (i + s)) (sym e)
    ∙ ap (λ (j : ℕ). slice j (j + s) (map f (line_of c))) there
    ∙ part_in_order rtl (map f (line_of c)) k s fits
    ∙ ap (in_order rtl) (ap (λ (l : List A). take s (drop k l)) (sym (map_in_order f rtl (line_of c))) ∙ ap (take s) (drop-map f k (in_order rtl (line_of c))) ∙ take-map f s (drop k (in_order rtl (line_of c))))
    in
    let long : length (take s (drop k (in_order rtl (line_of c)))) ≡ s = length-take-le s (drop k (in_order rtl (line_of c))) (omega (arith, length-drop k (in_order rtl (line_of c)), length_in_order rtl (line_of c), length-line c)) in
    ap₂ (λ (p : List A) (j : ℕ). pasted p j column) part (eo ∙ ap (part_of rtl m at) (sym long))

-- ---- all seven columns
module _ (rtl : Bool) (m : ℕ) (c : Columns) where
  pub laid_none : (k : ℕ) → laid rtl m k [] c ≡ c
  unfolding laid
  laid_none k = columns-same (laid-on-none _ rtl m k _) (laid-on-none _ rtl m k _) (laid-on-none _ rtl m k _) (laid-on-none _ rtl m k _) (laid-on-none _ rtl m k _) (laid-on-none _ rtl m k _) (laid-on-none _ rtl m k _)

  module _ (h : Roomy m c) where
    -- one record stored in each column
    pub laid_one :
        (k i : ℕ) (r : Record) → k < m → i ≡ part_of rtl m k 1
        → columns (set c.glyphs i r.glyph) (set c.widths i r.width) (set c.categories i r.category) (set c.ignorables i r.ignorable) (set c.actions i r.action) (set c.advances i r.advance) (set c.offsets i r.offset)
        ≡ laid rtl m k (r ∷ []) c
    unfolding laid
    laid_one k i r g e =
        columns-same
        (laid-on-one (λ (q : Record). q.glyph) rtl m k i r c.glyphs g h.for_glyphs e)
        (laid-on-one (λ (q : Record). q.width) rtl m k i r c.widths g h.for_widths e)
        (laid-on-one (λ (q : Record). q.category) rtl m k i r c.categories g h.for_categories e)
        (laid-on-one (λ (q : Record). q.ignorable) rtl m k i r c.ignorables g h.for_ignorables e)
        (laid-on-one (λ (q : Record). q.action) rtl m k i r c.actions g h.for_actions e)
        (laid-on-one (λ (q : Record). q.advance) rtl m k i r c.advances g h.for_advances e)
        (laid-on-one (λ (q : Record). q.offset) rtl m k i r c.offsets g h.for_offsets e)

    -- one list behind another
    pub laid_then : (k j : ℕ) (us vs : List Record) → j ≡ k + length us → j + length vs ≤ m → laid rtl m k (us ++ vs) c ≡ laid rtl m j vs (laid rtl m k us c)
    unfolding laid
    laid_then k j us vs e g =
        columns-same
        (laid-on-then (λ (q : Record). q.glyph) rtl m k j us vs c.glyphs e g h.for_glyphs)
        (laid-on-then (λ (q : Record). q.width) rtl m k j us vs c.widths e g h.for_widths)
        (laid-on-then (λ (q : Record). q.category) rtl m k j us vs c.categories e g h.for_categories)
        (laid-on-then (λ (q : Record). q.ignorable) rtl m k j us vs c.ignorables e g h.for_ignorables)
        (laid-on-then (λ (q : Record). q.action) rtl m k j us vs c.actions e g h.for_actions)
        (laid-on-then (λ (q : Record). q.advance) rtl m k j us vs c.advances e g h.for_advances)
        (laid-on-then (λ (q : Record). q.offset) rtl m k j us vs c.offsets e g h.for_offsets)

-- a part of the line, in all columns
pub copied_part :
    (rtl : Bool) (m at k s i o : ℕ) (c b : Columns) → EvenLine c → k + s ≤ length c.actions → i ≡ part_of rtl (length c.actions) k s → o ≡ part_of rtl m at s
    → pasted_all i s c o b
    ≡ laid rtl m at (take s (drop k (work rtl c))) b
unfolding laid pasted_all
copied_part rtl m at k s i o c b e h ei eo =
    columns-same
    (copied_on (λ (q : Record). q.glyph) rtl m at c c.glyphs b.glyphs (column_of (λ (q : Record). q.glyph) c c.glyphs e.even_glyphs (λ j. refl)) k s i o h ei eo)
    (copied_on (λ (q : Record). q.width) rtl m at c c.widths b.widths (column_of (λ (q : Record). q.width) c c.widths e.even_widths (λ j. refl)) k s i o h ei eo)
    (copied_on (λ (q : Record). q.category) rtl m at c c.categories b.categories (column_of (λ (q : Record). q.category) c c.categories e.even_categories (λ j. refl)) k s i o h ei eo)
    (copied_on (λ (q : Record). q.ignorable) rtl m at c c.ignorables b.ignorables (column_of (λ (q : Record). q.ignorable) c c.ignorables e.even_ignorables (λ j. refl)) k s i o h ei eo)
    (copied_on (λ (q : Record). q.action) rtl m at c c.actions b.actions (column_of (λ (q : Record). q.action) c c.actions refl (λ j. refl)) k s i o h ei eo)
    (copied_on (λ (q : Record). q.advance) rtl m at c c.advances b.advances (column_of (λ (q : Record). q.advance) c c.advances e.even_advances (λ j. refl)) k s i o h ei eo)
    (copied_on (λ (q : Record). q.offset) rtl m at c c.offsets b.offsets (column_of (λ (q : Record). q.offset) c c.offsets e.even_offsets (λ j. refl)) k s i o h ei eo)

pub lengths-laid : (rtl : Bool) (m k : ℕ) (l : List Record) (c : Columns) → Roomy m c → k + length l ≤ m → SameLengths c (laid rtl m k l c)
unfolding laid
lengths-laid rtl m k l c h g = record {
  same_glyphs = length-laid-on (λ (q : Record). q.glyph) rtl m k l c.glyphs g h.for_glyphs;
  same_widths = length-laid-on (λ (q : Record). q.width) rtl m k l c.widths g h.for_widths;
  same_categories = length-laid-on (λ (q : Record). q.category) rtl m k l c.categories g h.for_categories;
  same_ignorables = length-laid-on (λ (q : Record). q.ignorable) rtl m k l c.ignorables g h.for_ignorables;
  same_actions = length-laid-on (λ (q : Record). q.action) rtl m k l c.actions g h.for_actions;
  same_advances = length-laid-on (λ (q : Record). q.advance) rtl m k l c.advances g h.for_advances;
  same_offsets = length-laid-on (λ (q : Record). q.offset) rtl m k l c.offsets g h.for_offsets;
}
