-- The call that writes a single lookup: when it is refused (`uneven_refused`, `long_refused`, `room_refused`), and that its four parts, one written behind the other, are the lookup (`parts-written`).
-- Assumes nothing.
use mathlib.Core.Path.{◌≡◌, refl, sym, ◌∙◌}
use mathlib.Core.Bool.{true}
use mathlib.Core.List.{List, [], ◌∷◌, ◌++◌}
use Prim.Native.Nat.{ℕ, ◌+◌, ◌*◌, ◌<◌, ◌≤◌}
use native.Mathlib.Nat.{mul-one}
use native.Mathlib.Omega.{arith}
use borrow.Author.Tests.{le-leb, lt-leb}
use lib.Dec.{leb}
use lib.ListN.{length, get_or, length-append}
use Rattle.std.specs.Prelude.{Ok, Err}
use Rattle.words.specs.Words.{Wrote}
use Rattle.words.proofs.WroteLaws.{then, step, frame}
use Rattle.layouts.specs.declared.Kind.TheVariants.{Single}
use Rattle.refusals.specs.declared.Refusal.TheVariants.{Uneven, Offset, NoRoom}
use Rattle.layouts.specs.Tables.{single}
use Rattle.layouts.specs.Lookups.{Lookup, lookup_of, fits}
use Rattle.layouts.specs.Written.{Writing}
use Rattle.layouts.proofs.FitLaws.{fits-lent}
use Rattle.layouts.proofs.SizeLaws.{size-single}
use Rattle.layouts.proofs.LimitLaws.{single-fits}
use Rattle.layouts.proofs.WrittenLaws.{uneven-given, offset-given, room-given, written_refused, written_all}

module _ (flags : ℕ) (gs ss area : List ℕ) where
  abbrev asked : Lookup
  asked = lookup_of flags Single gs ss

  -- one glyph for each substitute
  even : length gs ≡ length ss → length gs ≡ length ss * 1
  even e = e ∙ sym (mul-one (length ss))

  pub uneven_refused : (length gs ≡ length ss → ⊥) → Writing asked area (Err Uneven) area
  uneven_refused d = written_refused asked area Uneven (uneven-given asked (length area) (λ e. d (e ∙ mul-one (length ss))))

  module _ (e : length gs ≡ length ss) (f : flags < 65536) (g : (i : ℕ) → get_or gs i 0 < 65536) (s : (i : ℕ) → get_or ss i 0 < 65536) where
    fits_if : fits (single flags gs ss) ≡ leb (length ss) 32764
    fits_if = single-fits flags gs ss f (fits-lent gs g) (fits-lent ss s) e

    pub long_refused : 32764 < length ss → Writing asked area (Err Offset) area
    long_refused h = written_refused asked area Offset (offset-given asked (length area) (even e) refl (fits_if ∙ lt-leb (length ss) 32764 h))

    module _ (h : length ss ≤ 32764) where
      few : fits (single flags gs ss) ≡ true
      few = fits_if ∙ le-leb (length ss) 32764 h

      pub room_refused : length area < 18 + 4 * length ss → Writing asked area (Err NoRoom) area
      room_refused r = written_refused asked area NoRoom (room-given asked (length area) (even e) refl few (omega (arith, size-single flags gs ss e)))

      -- its head, the substitutes, the coverage's head, the glyphs
      pub parts-written :
          18 + 4 * length ss ≤ length area
          → {first second third left : List ℕ} {a b c end : ℕ}
          → Wrote area 0 (1 ∷ flags ∷ 1 ∷ 8 ∷ 2 ∷ (6 + 2 * length ss) ∷ length ss ∷ []) first a []
          → Wrote first a ss second b []
          → Wrote second b (1 ∷ length ss ∷ []) third c []
          → Wrote third c gs left end []
          → Writing asked area (Ok end) left
      unfolding single
      parts-written r {left} {end} p q t u =
          let size = size-single flags gs ss e in
          let all : Wrote area 0 (single flags gs ss) left end [] = rw e (then (step gs (step (1 ∷ length ss ∷ gs) (frame (ss ++ (1 ∷ length ss ∷ gs)) (simp length-append (omega arith)) p) q) t) u) in
          written_all asked area (record { even = even e; in_range = refl; small = few; enough = omega (arith, size) }) all
