-- A lookup of at most 1,024 rules: it has at most so many bytes (`few-short`), and where there is room for them its writer does not refuse it (`few-allowed`). Both of a lookup that is to be added to a draft (`Bounds`, `columns-bounds`).
-- Assumes nothing.
use mathlib.Core.Path.{◌≡◌, ◌∙◌}
use mathlib.Core.Bool.{true}
use mathlib.Core.Logic.{◌⊎◌, inl, inr}
use mathlib.Core.List.{List}
use Prim.Native.Nat.{ℕ, ◌+◌, ◌*◌, ◌-◌, ◌<◌, ◌≤◌}
use native.Mathlib.Nat.{mul-le-mul_right, mul-one}
use native.Mathlib.Omega.{arith}
use borrow.Author.Tests.{le-leb}
use lib.ListN.{length}
use Rattle.layouts.specs.declared.Kind.{Kind}
use Rattle.layouts.specs.declared.Kind.TheVariants.{Single, Ligature}
use Rattle.layouts.specs.Lookups.{Lookup, lookup_of, width, known, rules, words_of, fits}
use Rattle.layouts.specs.Written.{write_refusal}
use Rattle.layouts.proofs.SetLaws.{wide-rules}
use Rattle.layouts.proofs.SizeLaws.{length-rules, size-single, size-ligature}
use Rattle.layouts.proofs.LimitLaws.{single-fits, regular-rules, sets-few, longest-few, last-few, ligature-within}
use Rattle.layouts.proofs.WrittenLaws.{two-or-three, none-given}
use Rattle.drafts.specs.declared.Draft.{Draft}
use Rattle.drafts.specs.Entries.{rule_limit, most}
use Rattle.drafts.specs.declared.Columns.{Columns}
use Rattle.drafts.specs.Drafted.{Roomy}
use Rattle.drafts.specs.Lent.{lookup_in}

-- 2 or 3 components
between : {n : ℕ} → (n ≡ 2) ⊎ (n ≡ 3) → (2 ≤ n) × (n ≤ 3)
between (inl e) = (omega arith, omega arith)
between (inr e) = (omega arith, omega arith)

module _ (flags : ℕ) (f : flags < 65536) (gs ss : List ℕ) (g : fits gs ≡ true) (s : fits ss ≡ true) (few : length ss ≤ rule_limit) where
  -- the sizes, and that all numbers are of 16 bits
  bounds : (kind : Kind) → known kind ≡ true → length gs ≡ length ss * width kind
      → (2 * length (words_of (lookup_of flags kind gs ss)) ≤ most kind) × (fits (words_of (lookup_of flags kind gs ss)) ≡ true)
  bounds Single k e =
      let even : length gs ≡ length ss = e ∙ mul-one (length ss) in
      (omega (arith, size-single flags gs ss even), single-fits flags gs ss f g s even ∙ le-leb (length ss) 32764 (omega arith))
  bounds (Ligature n) k e =
      let b = between (two-or-three n k) in
      let rs = rules n gs ss in
      let count : length rs ≤ rule_limit = omega (arith, length-rules n gs ss) in
      let size = size-ligature n (omega (arith, b.0)) flags rs (wide-rules n gs ss e) in (
        omega (arith, size, sets-few rs, mul-le-mul_right (4 + 2 * n) count),
        ligature-within flags n rs (omega (arith, b.0)) f (regular-rules n gs ss (omega (arith, b.1)) e g s)
            (omega (arith, b.1, sets-few rs, mul-le-mul_right (4 + 2 * n) (last-few rs), mul-le-mul_right (4 + 2 * n) count))
            (omega (arith, b.1, mul-le-mul_right (4 + 2 * n) (longest-few rs), mul-le-mul_right (4 + 2 * n) count)),
      )

  module _ (kind : Kind) (k : known kind ≡ true) (e : length gs ≡ length ss * width kind) where
    pub few-short : 2 * length (words_of (lookup_of flags kind gs ss)) ≤ most kind
    few-short = (bounds kind k e).0

    pub few-allowed : (room : ℕ) → most kind ≤ room → write_refusal (lookup_of flags kind gs ss) room ≡ 0
    few-allowed room h = none-given (lookup_of flags kind gs ss) room (record { even = e; in_range = k; small = (bounds kind k e).1; enough = omega (arith, few-short) })

-- a lookup that is to be added to a draft
pub record Bounds (l : Lookup) (d : Draft) (scratch : List ℕ) : Type 0 where
  pub inside : d.end ≤ length scratch
  pub short : 2 * length (words_of l) ≤ most l.kind
  pub free : write_refusal l (length scratch - d.end) ≡ 0

pub columns-bounds :
    (c : Columns) → c.flags < 65536 → fits c.glyphs.now ≡ true → fits c.substitutes.now ≡ true
    → (d : Draft) (scratch : List ℕ) → Roomy c.kind d scratch → Bounds (lookup_in c) d scratch
columns-bounds c f g s d scratch p =
    let gs = c.glyphs.now in
    let ss = c.substitutes.now in
    record {
      inside = omega (arith, p.room);
      short = few-short c.flags f gs ss g s c.few c.kind c.named c.even;
      free = few-allowed c.flags f gs ss g s c.few c.kind c.named c.even (length scratch - d.end) (omega (arith, p.room));
    }
