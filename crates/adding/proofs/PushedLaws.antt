-- The entry of rows where there is a rule (`rows-added`), and that there is none in a font without codes (`none-without-codes`).
-- Assumes nothing.
use mathlib.Core.Path.{◌≡◌, sym, ap, ◌∙◌}
use mathlib.Core.List.{List, [], ◌∷◌, map}
use Prim.Native.Nat.{ℕ}
use borrow.Author.Tests.{ne_eqb}
use lib.ListN.{length, take, drop, length-map}
use lib.Seq.{take_at}
use Rattle.layouts.specs.Lookups.{listed}
use Rattle.packing.specs.Packed.{pack, unpacked}
use Rattle.ordering.specs.Order.{sorted}
use Rattle.fonts.specs.Font.{Font, font_of}
use Rattle.synthesis.specs.Rules.{kind_of, in_order}
use Rattle.synthesis.specs.Made.{Collected}
use Rattle.synthesis.proofs.RuledLaws.{ruled_no_codes}
use Rattle.drafts.specs.declared.Draft.{Draft}
use Rattle.drafts.specs.Entries.{most}
use Rattle.drafts.specs.Drafted.{Added}
use Rattle.drafts.proofs.DraftLaws.{none-added}
use Rattle.synthesis.specs.declared.Rows.{Rows}
use Rattle.synthesis.specs.Lent.{rows_lent}
use Rattle.adding.specs.Source.{rules_of, entry_of}
use Rattle.adding.proofs.OrderedLaws.{good-order, unpacked-all}

-- ---- the entry of rows
module _ (f : Font) (s : Rows) (column after : List ℕ) (made : ℕ) (c : Collected (rules_of f s) column made after) (mask flags : ℕ) (d : Draft) (scratch : List ℕ) where
  pub front-rules : take made after ≡ map pack (rules_of f s)
  front-rules = ap (take made) c.filled ∙ take_at (map pack (rules_of f s)) (drop made column) made (length-map (rules_of f s) pack ∙ sym c.counted)

  pub rows-added :
      (made ≡ 0 → ⊥) → (d' : Draft) (scratch' : List ℕ)
      → Added (record { mask = mask; lookup = listed flags (kind_of s.n) (map (unpacked s.n) (take made after)) } ∷ []) (most (kind_of s.n)) d scratch d' scratch'
      → Added (entry_of mask flags (kind_of s.n) (rules_of f s)) (most (kind_of s.n)) d scratch d' scratch'
  rows-added h d' scratch' a =
      let same : map (unpacked s.n) (take made after) ≡ rules_of f s = ap (map (unpacked s.n)) front-rules ∙ unpacked-all s.n (rules_of f s) (good-order f s) in
      rw (ne_eqb (length (rules_of f s)) 0 (λ z. h (c.counted ∙ z)), ← same) a

-- a font without codes
pub none-without-codes :
    (codes glyphs : List ℕ) → length codes ≡ 0 → (s : Rows) (mask flags : ℕ) (d : Draft) (scratch : List ℕ)
    → Added (entry_of mask flags (kind_of s.n) (rules_of (font_of codes glyphs) s)) (most (kind_of s.n)) d scratch d scratch
unfolding sorted
none-without-codes codes glyphs e s mask flags d scratch =
    let none : rules_of (font_of codes glyphs) s ≡ [] =
    ap in_order (ruled_no_codes codes glyphs e (kind_of s.n) (rows_lent s)) in
    rw none (none-added (most (kind_of s.n)) d scratch)
