-- The rules of rows, as numbers: each has its components and is of 16 bits (`Good`, `good-rules`, `good-order`), and there are no more of them than rows (`few-rules`). So the order of the numbers is that of the rules (`order-packed`), and the numbers are the rules again (`unpacked-all`); those that were collected, put into order (`ordered_collected`).
-- Assumes nothing.
use mathlib.Core.Path.{◌≡◌, refl, sym, ap, ap₂, ◌∙◌}
use mathlib.Core.Bool.{true}
use mathlib.Core.List.{List, [], ◌∷◌, ◌++◌, map}
use Prim.Native.Nat.{ℕ, ◌≤◌}
use native.Mathlib.Omega.{arith}
use lib.ListN.{length, take, drop, length-map}
use lib.Seq.{take_at, drop_at}
use Rattle.layouts.specs.Tables.{Rule, first}
use Rattle.layouts.proofs.SetLaws.{Wide}
use Rattle.fonts.specs.Font.{Font}
use Rattle.ordering.specs.Order.{sorted, low}
use Rattle.ordering.proofs.KeyLaws.{Each, each_on}
use Rattle.ordering.proofs.OrderLaws.{sorted-map, each-sorted, length-sorted}
use Rattle.packing.specs.Packed.{pack, unpacked}
use Rattle.packing.proofs.PackLaws.{unpacked-pack, low-pack}
use Rattle.synthesis.specs.Rules.{kind_of, usable, ruled}
use Rattle.synthesis.specs.Made.{Collected}
use Rattle.synthesis.proofs.RuledLaws.{Passing, length-rows, ruled-few, ruled-usable, ruled-wide}
use Rattle.synthesis.specs.declared.Rows.{Rows}
use Rattle.synthesis.specs.Lent.{rows_lent}
use Rattle.adding.specs.Source.{rules_of}

-- a rule of n components, all its numbers of 16 bits
abbrev pub Good : ℕ → Rule → Type 0
Good n r = (length r.components ≡ n) × (usable r ≡ true)

good-each : (n : ℕ) (rs : List Rule) → Wide n rs → Passing usable rs → Each (Good n) rs
unfolding Wide Passing
good-each n [] w p = tt
good-each n (r ∷ rs) w p = ((w.0, p.0), good-each n rs w.1 p.1)

pub unpacked-all : (n : ℕ) (rs : List Rule) → Each (Good n) rs → map (unpacked n) (map pack rs) ≡ rs
unpacked-all n [] g = refl
unpacked-all n (r ∷ rs) g = ap₂ (λ (x : Rule) (l : List Rule). x ∷ l) (unpacked-pack n r g.0.0 g.0.1) (unpacked-all n rs g.1)

module _ (f : Font) (s : Rows) where
  -- the rules in the order of their rows
  abbrev found : List Rule
  found = ruled f (kind_of s.n) (rows_lent s)

  good-rules : Each (Good s.n) found
  good-rules = good-each s.n found (ruled-wide f (kind_of s.n) s.count s.n s.each s.k s.components.now s.ligatures.now s.wide) (ruled-usable f (kind_of s.n) _)

  pub good-order : Each (Good s.n) (rules_of f s)
  good-order = each-sorted first (Good s.n) found good-rules

  pub few-rules : length found ≤ s.count
  few-rules = omega (arith, ruled-few f (kind_of s.n) (rows_lent s), length-rows s.count s.n s.each s.k s.components.now s.ligatures.now)

  order-packed : sorted low (map pack found) ≡ map pack (rules_of f s)
  unfolding low
  order-packed = sorted-map pack low first found (each_on (λ r g. low-pack r (omega (arith, s.low, g.0)) g.1) found good-rules)

  -- the numbers collected, and then put into order where they stand
  pub ordered_collected :
      (column mid : List ℕ) (made : ℕ) → Collected found column made mid → (part : List ℕ) → part ≡ sorted low (take made mid)
      → Collected (rules_of f s) column made (part ++ drop made mid)
  ordered_collected column mid made c part e =
      let long : length (map pack found) ≡ made = length-map found pack ∙ sym c.counted in
      let front : take made mid ≡ map pack found = ap (take made) c.filled ∙ take_at (map pack found) (drop made column) made long in
      let back : drop made mid ≡ drop made column = ap (drop made) c.filled ∙ drop_at (map pack found) (drop made column) made long in
      record {
        filled = ap₂ (λ (a b : List ℕ). a ++ b) (e ∙ ap (sorted low) front ∙ order-packed) back;
        counted = c.counted ∙ sym (length-sorted first found);
      }
