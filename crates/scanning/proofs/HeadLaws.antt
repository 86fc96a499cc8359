-- What lookups of both kinds have: the head (`headed-takes`), a count and where the coverage begins (`counted-takes`), the coverage (`covered-takes`).
-- Assumes nothing.
use mathlib.Core.Path.{◌≡◌, refl, sym, ap}
use mathlib.Core.Bool.{true, ◌&&◌}
use mathlib.Core.List.{[], ◌∷◌, ◌++◌}
use Prim.Native.Nat.{ℕ, ◌+◌, ◌-◌, ◌*◌, ◌/◌, ◌≤◌}
use native.Mathlib.Omega.{arith}
use borrow.Author.Tests.{eq-eqb, eqb-true, le-leb, leb-true}
use lib.Dec.{eqb, leb}
use lib.ListN.{length}
use Rattle.laws.proofs.TestLaws.{both}
use Rattle.refusals.specs.Columns.{rising}
use Rattle.layouts.specs.Lookups.{fits}
use Rattle.scanning.specs.Scans.{any}
use Rattle.scanning.specs.Grammar.{headed, counted, covered}
use Rattle.scanning.proofs.TakeLaws.{Takes, Said, said-takes, behind-takes, ahead-takes, next-takes, rise-takes}

pub headed-takes : (type : ℕ) → Takes (λ flags. any flags ≡ true) (λ flags. type ∷ flags ∷ 1 ∷ 8 ∷ []) (headed type)
headed-takes type = behind-takes (type ∷ []) (ahead-takes (next-takes any) (λ flags. 1 ∷ 8 ∷ []))

-- how many numbers stand before byte o
abbrev before : ℕ → ℕ
before o = (o - 6) / 2

before-count : (n : ℕ) → before (6 + 2 * n) ≡ n
before-count n = omega arith

pub counted-takes : (most : ℕ) → Takes (λ n. n ≤ most) (λ n. (6 + 2 * n) ∷ n ∷ []) (counted most)
counted-takes most =
    said-takes (ahead-takes (next-takes (λ o. eqb (6 + 2 * before o) o && leb (before o) most)) (λ o. before o ∷ [])) before (λ n. n ≤ most) (λ n. (6 + 2 * n) ∷ n ∷ []) to of
  where
    to : (n : ℕ) → n ≤ most → Said (λ o. (eqb (6 + 2 * before o) o && leb (before o) most) ≡ true) (λ o. (o ∷ []) ++ (before o ∷ [])) before n ((6 + 2 * n) ∷ n ∷ [])
    to n h =
        record {
          from = 6 + 2 * n;
          holds = rw (before-count n, eq-eqb (6 + 2 * n) (6 + 2 * n) refl) (le-leb n most h);
          same = before-count n;
          written = rw (before-count n);
        }

    of : (o : ℕ) → (eqb (6 + 2 * before o) o && leb (before o) most) ≡ true → (before o ≤ most) × ((o ∷ []) ++ (before o ∷ []) ≡ (6 + 2 * before o) ∷ before o ∷ [])
    of o h =
        let b = both (eqb (6 + 2 * before o) o) (leb (before o) most) h in
        (leb-true (before o) most b.1, ap (λ (x : ℕ). x ∷ before o ∷ []) (sym (eqb-true (6 + 2 * before o) o b.0)))

pub covered-takes : (apart n : ℕ) → Takes (λ glyphs. (length glyphs ≡ n) × (rising apart glyphs ≡ true) × (fits glyphs ≡ true)) (λ glyphs. 1 ∷ n ∷ glyphs) (covered apart n)
covered-takes apart n = behind-takes (1 ∷ n ∷ []) (rise-takes apart n)
