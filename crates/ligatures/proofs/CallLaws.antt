-- What the call knows where it answers: numbers of components that are known, and others (`low-and-high`, `other_number`); and of columns of one shape, lent as numbers of 16 bits (`Lent`): numbers small enough that no sum overflows (`product_small`, `extent_small`), each refusal (`many_refused`, `offset_refused`, `set_refused`, `room_refused`), what fits (`all_fit`) and what is not refused (`not_refused`).
-- Assumes nothing.
use mathlib.Core.Path.{◌≡◌, refl, sym, ap, ◌∙◌}
use mathlib.Core.Bool.{Bool, true, false, not, ◌&&◌, ◌||◌, false≢true}
use mathlib.Core.List.{List}
use Prim.Native.Nat.{ℕ, ◌+◌, ◌*◌, ◌<◌, ◌≤◌}
use native.Mathlib.Nat.{mul-le-mul_right, mul-le-mul_left}
use native.Mathlib.Omega.{arith}
use borrow.Author.Tests.{eq-eqb, eqb-true, eqb-false}
use lib.Dec.{eqb}
use lib.ListN.{length}
use Rattle.refusals.specs.declared.Refusal.TheVariants.{Offset, NoRoom}
use Rattle.layouts.specs.declared.Kind.TheVariants.{Ligature}
use Rattle.std.specs.Prelude.{Err}
use Rattle.layouts.specs.Tables.{sets, ligature}
use Rattle.layouts.specs.Lookups.{lookup_of, known, rules, fits}
use Rattle.layouts.specs.Extents.{longest, last_from}
use Rattle.layouts.specs.Written.{Writing}
use Rattle.layouts.proofs.SizeLaws.{length-rules, size-ligature}
use Rattle.layouts.proofs.LimitLaws.{Regular, regular-rules, sets-few, longest-few, last-few, ligature-within, offset-over, set-over, too_many}
use Rattle.layouts.proofs.WrittenLaws.{Allowed, offset-given, room-given, written_refused}
use Rattle.ligatures.specs.Places.{Shape}

-- ---- "component number other than 2 or 3"
in_range : {n : ℕ} → 2 ≤ n → n ≤ 3 → known (Ligature n) ≡ true
in_range {n} low high = go (eqb n 2) refl
  where
    go : (t : Bool) → eqb n 2 ≡ t → (t || eqb n 3) ≡ true
    go true e = refl
    go false e = eq-eqb n 3 (omega (arith, eqb-false n 2 e))

-- the test that code makes of it
pub other_number : (n : ℕ) → (not (eqb n 2) && not (eqb n 3)) ≡ true → known (Ligature n) ≡ false
other_number n = go (eqb n 2) (eqb n 3)
  where
    go : (s t : Bool) → (not s && not t) ≡ true → (s || t) ≡ false
    go true t e = absurd (false≢true e)
    go false true e = absurd (false≢true e)
    go false false e = refl

pub low-and-high : (n : ℕ) → (not (eqb n 2) && not (eqb n 3)) ≡ false → (2 ≤ n) × (n ≤ 3)
low-and-high n = go (eqb n 2) (eqb n 3) refl refl
  where
    go : (s t : Bool) → eqb n 2 ≡ s → eqb n 3 ≡ t → (not s && not t) ≡ false → (2 ≤ n) × (n ≤ 3)
    go true t e f k = let two = eqb-true n 2 e in (omega arith, omega arith)
    go false true e f k = let three = eqb-true n 3 f in (omega arith, omega arith)
    go false false e f k = absurd (false≢true (sym k))

-- ---- columns of one shape, with flags and numbers of 16 bits
pub record Lent (flags n : ℕ) (cs ls : List ℕ) : Type 0 where
  pub shape : Shape n cs ls
  pub flags-fit : flags < 65536
  pub components-fit : fits cs ≡ true
  pub ligatures-fit : fits ls ≡ true

module _ {flags n : ℕ} {cs ls : List ℕ} (l : Lent flags n cs ls) where
  regular : Regular n (rules n cs ls)
  regular = regular-rules n cs ls (omega (arith, l.shape.high)) l.shape.flat l.components-fit l.ligatures-fit

  positive : 0 < n
  positive = omega (arith, l.shape.low)

  length-written : 2 * length (ligature flags n (rules n cs ls)) ≡ 18 + 6 * length (sets (rules n cs ls)) + length ls * (4 + 2 * n)
  length-written = size-ligature n positive flags (rules n cs ls) regular.wide ∙ ap (λ (k : ℕ). 18 + 6 * length (sets (rules n cs ls)) + k * (4 + 2 * n)) (length-rules n cs ls)

  -- with at most 16,383 rules
  pub product_small : length ls ≤ 16383 → (k : ℕ) → k ≤ length ls → k * (4 + 2 * n) ≤ 163830
  product_small few k h = omega (arith, mul-le-mul_right (4 + 2 * n) (most few k h), mul-le-mul_left 16383 ten)
    where
      most : length ls ≤ 16383 → (k : ℕ) → k ≤ length ls → k ≤ 16383
      most few k h = omega arith

      ten : 4 + 2 * n ≤ 10
      ten = omega (arith, l.shape.high)

  pub extent_small :
      {s most last : ℕ} → s ≡ length (sets (rules n cs ls)) → most ≡ longest (sets (rules n cs ls)) → last ≡ last_from 0 0 (sets (rules n cs ls))
      → (s ≤ length ls) × (most ≤ length ls) × (last ≤ length ls)
  extent_small a b c =
      let rs = rules n cs ls in
      let k = length-rules n cs ls in
      (omega (arith, sets-few rs), omega (arith, longest-few rs), omega (arith, last-few rs))

  -- ---- what is refused, and what is not
  module _ (area : List ℕ) where
    over : fits (ligature flags n (rules n cs ls)) ≡ false → Writing (lookup_of flags (Ligature n) cs ls) area (Err Offset) area
    over f =
        written_refused (lookup_of flags (Ligature n) cs ls) area Offset
        (offset-given (lookup_of flags (Ligature n) cs ls) (length area) l.shape.flat (in_range l.shape.low l.shape.high) f)

    pub many_refused : 16383 < length ls → Writing (lookup_of flags (Ligature n) cs ls) area (Err Offset) area
    many_refused h = over (too_many flags n (rules n cs ls) positive l.flags-fit regular l.shape.low (rw (length-rules n cs ls) h))

    pub offset_refused :
        {s last : ℕ} → s ≡ length (sets (rules n cs ls)) → last ≡ last_from 0 0 (sets (rules n cs ls)) → 65535 < 8 + 6 * s + last * (4 + 2 * n)
        → Writing (lookup_of flags (Ligature n) cs ls) area (Err Offset) area
    offset_refused a b h = over (offset-over flags n (rules n cs ls) positive l.flags-fit regular (rw (a, b) at h))

    pub set_refused :
        {most : ℕ} → most ≡ longest (sets (rules n cs ls)) → 65535 + 2 * n < most * (4 + 2 * n) → Writing (lookup_of flags (Ligature n) cs ls) area (Err Offset) area
    set_refused a h = over (set-over flags n (rules n cs ls) positive l.flags-fit regular (rw a at h))

    module _ {s most last : ℕ} (a : s ≡ length (sets (rules n cs ls))) (b : most ≡ longest (sets (rules n cs ls))) (c : last ≡ last_from 0 0 (sets (rules n cs ls))) (h : 8 + 6 * s + last * (4 + 2 * n) ≤ 65535) (g : most * (4 + 2 * n) ≤ 65535 + 2 * n) where
      pub all_fit : fits (ligature flags n (rules n cs ls)) ≡ true
      all_fit =
          let offset = rw (a, c) at h in
          let set = rw b at g in
          ligature-within flags n (rules n cs ls) positive l.flags-fit regular (omega arith) (omega arith)

      pub room_refused : length area < 18 + 6 * s + length ls * (4 + 2 * n) → Writing (lookup_of flags (Ligature n) cs ls) area (Err NoRoom) area
      room_refused r =
          written_refused (lookup_of flags (Ligature n) cs ls) area NoRoom
          (room-given (lookup_of flags (Ligature n) cs ls) (length area) l.shape.flat (in_range l.shape.low l.shape.high) all_fit (omega (arith, length-written)))

      pub not_refused : 18 + 6 * s + length ls * (4 + 2 * n) ≤ length area → Allowed (lookup_of flags (Ligature n) cs ls) (length area)
      not_refused r =
          record {
            even = l.shape.flat;
            in_range = in_range l.shape.low l.shape.high;
            small = all_fit;
            enough = omega (arith, length-written);
          }
