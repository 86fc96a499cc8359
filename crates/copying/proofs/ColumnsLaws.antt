-- Seven columns at once: equal if each is (`columns-same`); of the lengths that they had (`SameLengths`, `same-lengths`, `lengths-then`), and so with the room that they had (`roomy-same`, `roomy-less`).
-- Assumes nothing.
use mathlib.Core.Path.{◌≡◌, refl, ◌∙◌}
use mathlib.Core.List.{List}
use Prim.Native.Nat.{ℕ, ◌≤◌}
use native.Mathlib.Omega.{arith}
use lib.ListN.{length}
use lib.IntN.{ℤ}
use Rattle.runs.specs.Records.{Columns, columns}
use Rattle.copying.specs.Pasted.{Roomy}

pub columns-same :
    {g g' : List ℕ} {w w' : List ℤ} {c c' i i' a a' : List ℕ} {d d' o o' : List ℤ} → g ≡ g' → w ≡ w' → c ≡ c' → i ≡ i' → a ≡ a' → d ≡ d' → o ≡ o'
    → columns g w c i a d o ≡ columns g' w' c' i' a' d' o'
columns-same p q r s t u v = cc

-- the columns have the lengths that they had
pub record SameLengths (b c : Columns) : Type 0 where
  pub same_glyphs : length c.glyphs ≡ length b.glyphs
  pub same_widths : length c.widths ≡ length b.widths
  pub same_categories : length c.categories ≡ length b.categories
  pub same_ignorables : length c.ignorables ≡ length b.ignorables
  pub same_actions : length c.actions ≡ length b.actions
  pub same_advances : length c.advances ≡ length b.advances
  pub same_offsets : length c.offsets ≡ length b.offsets

pub same-lengths : (c : Columns) → SameLengths c c
same-lengths c = record { same_glyphs = refl; same_widths = refl; same_categories = refl; same_ignorables = refl; same_actions = refl; same_advances = refl; same_offsets = refl }

pub lengths-then : {a b c : Columns} → SameLengths a b → SameLengths b c → SameLengths a c
lengths-then s t = record {
  same_glyphs = t.same_glyphs ∙ s.same_glyphs;
  same_widths = t.same_widths ∙ s.same_widths;
  same_categories = t.same_categories ∙ s.same_categories;
  same_ignorables = t.same_ignorables ∙ s.same_ignorables;
  same_actions = t.same_actions ∙ s.same_actions;
  same_advances = t.same_advances ∙ s.same_advances;
  same_offsets = t.same_offsets ∙ s.same_offsets;
}

pub roomy-same : {m : ℕ} {b c : Columns} → SameLengths b c → Roomy m b → Roomy m c
roomy-same s h = record {
  for_glyphs = rw s.same_glyphs h.for_glyphs;
  for_widths = rw s.same_widths h.for_widths;
  for_categories = rw s.same_categories h.for_categories;
  for_ignorables = rw s.same_ignorables h.for_ignorables;
  for_actions = rw s.same_actions h.for_actions;
  for_advances = rw s.same_advances h.for_advances;
  for_offsets = rw s.same_offsets h.for_offsets;
}

-- room for fewer
pub roomy-less : {n m : ℕ} {c : Columns} → n ≤ m → Roomy m c → Roomy n c
roomy-less h r = record {
  for_glyphs = omega (arith, h, r.for_glyphs);
  for_widths = omega (arith, h, r.for_widths);
  for_categories = omega (arith, h, r.for_categories);
  for_ignorables = omega (arith, h, r.for_ignorables);
  for_actions = omega (arith, h, r.for_actions);
  for_advances = omega (arith, h, r.for_advances);
  for_offsets = omega (arith, h, r.for_offsets);
}
