-- Limits that the 16 bits of an offset set, over the number n of components: the numbers of document 01 (`limits`); so many glyphs are at most `most_single` exactly when the offset behind them fits (`in_most_single`, `most-single-fits`), c rules at most `most_rules n` exactly when the last one's offset does (`in_most_rules`, `most-rules-fit`),
-- s sets of one rule each at most `most_sets n` exactly when the last one's offset does (`in_most_sets`, `most-sets-fit`); a number of bytes is a set's exactly when it is that of a number of rules within the limit (`Sized`, `size_back`, `size-on`), and of one number only (`size-once`).
-- Assumes nothing.
use mathlib.Core.Path.{◌≡◌, refl, sym, ap, ◌∙◌}
use mathlib.Core.Bool.{true, ◌&&◌}
use Prim.Native.Nat.{ℕ, suc, ◌+◌, ◌-◌, ◌*◌, ◌/◌, ◌<◌, ◌≤◌}
use native.Mathlib.Nat.{le-div_iff_mul-le, mul-div_cancel}
use native.Mathlib.Omega.{arith}
use borrow.Author.Tests.{eq-eqb, eqb-true, le-leb, leb-true}
use lib.Dec.{eqb, leb}
use Rattle.laws.proofs.TestLaws.{both}
use Rattle.scanning.specs.Grammar.{most_single, set_size, most_rules, most_sets, is_size_lem}

pub limits : (most_single ≡ 32764) × (most_rules 2 ≡ 8192) × (most_rules 3 ≡ 6554) × (most_sets 2 ≡ 4681) × (most_sets 3 ≡ 4096)
limits = (refl, refl, refl, refl, refl)

-- glyphs of a single lookup: the coverage's offset is 6 + 2 * c
pub in_most_single : (c : ℕ) → 6 + 2 * c < 65536 → c ≤ most_single
in_most_single c h = omega arith

pub most-single-fits : (c : ℕ) → c ≤ most_single → 6 + 2 * c < 65536
most-single-fits c h = omega arith

module _ (n : ℕ) where
  -- rules of a set: the offset of one with c before it is 2 + 2 * suc c + c * (2 + 2 * n)
  pub in_most_rules : (c : ℕ) → 2 + 2 * suc c + c * (2 + 2 * n) < 65536 → suc c ≤ most_rules n
  in_most_rules c h = (le-div_iff_mul-le {k = 4 + 2 * n} (omega arith)).1 (omega arith)

  pub most-rules-fit : (c : ℕ) → suc c ≤ most_rules n → 2 + 2 * suc c + c * (2 + 2 * n) < 65536
  most-rules-fit c h = let m = (le-div_iff_mul-le {k = 4 + 2 * n} (omega arith)).0 h in omega arith

  -- sets of a rule each: the offset of one with s before it is 10 + 4 * suc s + s * set_size n 1
  pub in_most_sets : (s : ℕ) → 10 + 4 * suc s + s * set_size n 1 < 65536 → suc s ≤ most_sets n
  in_most_sets s h = (le-div_iff_mul-le {k = 10 + 2 * n} (omega arith)).1 (omega arith)

  pub most-sets-fit : (s : ℕ) → suc s ≤ most_sets n → 10 + 4 * suc s + s * set_size n 1 < 65536
  most-sets-fit s h = let m = (le-div_iff_mul-le {k = 10 + 2 * n} (omega arith)).0 h in omega arith

  -- how many rules a set of x bytes has
  abbrev rules_in : ℕ → ℕ
  rules_in x = (x - 2) / (4 + 2 * n)

  rules_in_lem : (c : ℕ) → rules_in (set_size n c) ≡ c
  rules_in_lem c = ap (λ (x : ℕ). x / (4 + 2 * n)) (less (c * (4 + 2 * n))) ∙ mul-div_cancel c (omega arith)
    where
      less : (x : ℕ) → 2 + x - 2 ≡ x
      less x = omega arith

  -- x is the size of a set of `rules` rules
  pub record Sized (x : ℕ) : Type 0 where
    pub rules : ℕ
    pub size : set_size n rules ≡ x
    pub some : 1 ≤ rules
    pub few : rules ≤ most_rules n

  pub size_back : (x : ℕ) → is_size_lem n x ≡ true → Sized x
  size_back x e =
      let b = both (eqb (set_size n (rules_in x)) x) (leb 1 (rules_in x) && leb (rules_in x) (most_rules n)) e in
      let d = both (leb 1 (rules_in x)) (leb (rules_in x) (most_rules n)) b.1 in
      record {
        rules = rules_in x;
        size = eqb-true (set_size n (rules_in x)) x b.0;
        some = leb-true 1 (rules_in x) d.0;
        few = leb-true (rules_in x) (most_rules n) d.1;
      }

  pub size-on : (c : ℕ) → 1 ≤ c → c ≤ most_rules n → is_size_lem n (set_size n c) ≡ true
  size-on c low few = rw (rules_in_lem c, eq-eqb (set_size n c) (set_size n c) refl, le-leb 1 c low) (le-leb c (most_rules n) few)

  -- sets of one size have as many rules
  pub size-once : (c d : ℕ) → set_size n c ≡ set_size n d → c ≡ d
  size-once c d e = sym (rules_in_lem c) ∙ ap rules_in e ∙ rules_in_lem d
