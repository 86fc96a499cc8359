-- Of rules that are one number: such a number is the rule again (`unpacked-pack`), has 64 bits (`pack-bound`), and its lowest 16 bits are the first component (`low-pack`).
-- What a number is unpacked to are rules of n components (`length_digits`, `wide-unpacked`).
-- Assumes nothing.
use mathlib.Core.Path.{◌≡◌, refl, ap, ap₂, ◌∙◌}
use mathlib.Core.Bool.{true}
use mathlib.Core.List.{List, [], ◌∷◌, map}
use Prim.Native.Nat.{ℕ, zero, suc, ◌+◌, ◌*◌, ◌/◌, ◌%◌, ◌≤◌, ◌<◌}
use native.Mathlib.Omega.{arith}
use lib.ListN.{length, get_or}
use Rattle.layouts.specs.Tables.{Rule, first}
use Rattle.layouts.specs.Lookups.{fits}
use Rattle.layouts.proofs.FitLaws.{fits_head}
use Rattle.layouts.proofs.SetLaws.{Wide}
use Rattle.packing.specs.Packed.{packed, pack, digits, above, unpacked}

-- ---- a rule as one number
-- the lowest component, and the others
lowest : (c p : ℕ) → c < 65536 → (c + 65536 * p) % 65536 ≡ c
lowest c p h = omega arith

others : (c p : ℕ) → c < 65536 → (c + 65536 * p) / 65536 ≡ p
others c p h = omega arith

digits-packed : (n : ℕ) (cs : List ℕ) (l : ℕ) → length cs ≡ n → fits cs ≡ true → digits n (packed cs l) ≡ cs
unfolding digits
digits-packed zero [] l e f = refl
digits-packed zero (c ∷ cs) l e f = absurd (omega arith)
digits-packed (suc n) [] l e f = absurd (omega arith)
digits-packed (suc n) (c ∷ cs) l e f =
    let b = fits_head c cs f in
    rw (lowest c (packed cs l) b.0, others c (packed cs l) b.0) (ap (λ (x : List ℕ). c ∷ x) (digits-packed n cs l (omega arith) b.1))

above-packed : (n : ℕ) (cs : List ℕ) (l : ℕ) → length cs ≡ n → fits cs ≡ true → above n (packed cs l) ≡ l
unfolding above
above-packed zero [] l e f = refl
above-packed zero (c ∷ cs) l e f = absurd (omega arith)
above-packed (suc n) [] l e f = absurd (omega arith)
above-packed (suc n) (c ∷ cs) l e f =
    let b = fits_head c cs f in
    rw (others c (packed cs l) b.0) (above-packed n cs l (omega arith) b.1)

pub unpacked-pack : (n : ℕ) (r : Rule) → length r.components ≡ n → fits (r.ligature ∷ r.components) ≡ true → unpacked n (pack r) ≡ r
unpacked-pack n r e f =
    let b = fits_head r.ligature r.components f in
    let small : r.ligature % 65536 ≡ r.ligature = omega (arith, b.0) in
    ap₂ (λ (cs : List ℕ) (l : ℕ). record { components = cs; ligature = l }) (digits-packed n r.components r.ligature e b.1)
    (ap (λ (x : ℕ). x % 65536) (above-packed n r.components r.ligature e b.1) ∙ small)

pub pack-bound : (cs : List ℕ) (l : ℕ) → fits (l ∷ cs) ≡ true → length cs ≤ 3 → packed cs l < 18446744073709551616
pack-bound cs l f = go cs (fits_head l cs f).1
  where
    small : l < 65536
    small = (fits_head l cs f).0

    go : (cs : List ℕ) → fits cs ≡ true → length cs ≤ 3 → packed cs l < 18446744073709551616
    go [] g h = omega (arith, small)
    go (a ∷ []) g h = omega (arith, small, (fits_head a [] g).0)
    go (a ∷ b ∷ []) g h = let p = fits_head a (b ∷ []) g in omega (arith, small, p.0, (fits_head b [] p.1).0)
    go (a ∷ b ∷ c ∷ []) g h =
        let p = fits_head a (b ∷ c ∷ []) g in
        let q = fits_head b (c ∷ []) p.1 in
        omega (arith, small, p.0, q.0, (fits_head c [] q.1).0)
    go (a ∷ b ∷ c ∷ d ∷ cs) g h = absurd (omega arith)

pub low-pack : (r : Rule) → 1 ≤ length r.components → fits (r.ligature ∷ r.components) ≡ true → pack r % 65536 ≡ first r
low-pack r h f = go r.components h (fits_head r.ligature r.components f).1
  where
    go : (cs : List ℕ) → 1 ≤ length cs → fits cs ≡ true → packed cs r.ligature % 65536 ≡ get_or cs 0 0
    go [] h f = absurd (omega arith)
    go (c ∷ cs) h f = lowest c (packed cs r.ligature) (fits_head c cs f).0

-- ---- what a number is unpacked to
pub length_digits : (n x : ℕ) → length (digits n x) ≡ n
unfolding digits
length_digits zero x = refl
length_digits (suc n) x = ap suc (length_digits n (x / 65536))

pub wide-unpacked : (n : ℕ) (xs : List ℕ) → Wide n (map (unpacked n) xs)
unfolding Wide
wide-unpacked n [] = tt
wide-unpacked n (x ∷ xs) = (length_digits n x, wide-unpacked n xs)
