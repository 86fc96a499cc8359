-- A code is printed as it was typed: the digits of the number that its digits write are these digits.
-- Assumes nothing.
use Prim.Native.Nat.{ℕ, suc, ◌+◌, ◌-◌, ◌*◌, ◌/◌, ◌%◌, ◌≤◌, ◌<◌}
use mathlib.Core.Bool.{Bool, true, false, cond, ◌&&◌, and-eq-true_iff}
use mathlib.Core.List.{List, [], ◌∷◌, ◌++◌, append-nil}
use mathlib.Core.Path.{◌≡◌, refl, sym, ◌∙◌}
use native.Mathlib.Nat.{add-zero, zero-add}
use native.Mathlib.Omega.{arith}
use lib.Dec.{leb, ltb}
use lib.ListN.{length}
use lib.Seq.{append_snoc}
use borrow.Author.Tests.{leb-true, ltb-true, lt-ltb, le-ltb}
use Rattle.entries.specs.Form.{digit, all_digits, value_from, value, is_code}
use Rattle.printing.specs.Printed.{glyph, numeral}

glyph-digit : (b : ℕ) → digit b < 16 → glyph (digit b) ≡ b
unfolding digit
glyph-digit b = go (leb 48 b && leb b 57) refl (leb 65 b && leb b 70) refl
  where
    go :
        (p : Bool) → (leb 48 b && leb b 57) ≡ p → (q : Bool) → (leb 65 b && leb b 70) ≡ q → cond p (b - 48) (cond q (b - 55) 16) < 16
        → glyph (cond p (b - 48) (cond q (b - 55) 16)) ≡ b
    go true e q f h =
        let r = (and-eq-true_iff (leb 48 b) (leb b 57)).0 e in
        let low : 48 ≤ b = leb-true 48 b r.0 in
        let high : b ≤ 57 = leb-true b 57 r.1 in
        rw (lt-ltb (b - 48) 10 (omega arith)) (omega arith)
    go false e true f h =
        let r = (and-eq-true_iff (leb 65 b) (leb b 70)).0 f in
        let low : 65 ≤ b = leb-true 65 b r.0 in
        let high : b ≤ 70 = leb-true b 70 r.1 in
        rw (le-ltb (b - 55) 10 (omega arith)) (omega arith)
    go false e false f h = absurd (omega arith)

last-digit : (v x : ℕ) → x < 16 → ((v * 16 + x) / 16 ≡ v) × ((v * 16 + x) % 16 ≡ x)
last-digit v x h = (omega arith, omega arith)

numeral-typed : (ds : List ℕ) (k v : ℕ) → all_digits 16 ds ≡ true → numeral 16 (k + length ds) (value_from 16 v ds) ≡ numeral 16 k v ++ ds
numeral-typed [] k v h = rw (add-zero k) (sym (append-nil (numeral 16 k v)))
numeral-typed (d ∷ ds) k v h =
    let p = (and-eq-true_iff (ltb (digit d) 16) (all_digits 16 ds)).0 h in
    let small : digit d < 16 = ltb-true (digit d) 16 p.0 in
    let one : k + suc (length ds) ≡ suc k + length ds = omega arith in
    let q = last-digit v (digit d) small in
    rw one
    (numeral-typed ds (suc k) (v * 16 + digit d) p.1
    ∙ rw (q.0, q.1, glyph-digit d small) (append_snoc (numeral 16 k v) d ds))

-- The digits that a code is printed with are those that it was typed with.
pub code_as_typed : (ds : List ℕ) → is_code ds ≡ true → numeral 16 (length ds) (value 16 ds) ≡ ds
unfolding is_code
code_as_typed ds h =
    let p = (and-eq-true_iff (leb 4 (length ds)) _).0 h in
    let q = (and-eq-true_iff (leb (length ds) 6) _).0 p.1 in
    rw zero-add at (numeral-typed ds 0 0 q.1)
