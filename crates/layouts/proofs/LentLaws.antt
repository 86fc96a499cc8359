-- `lookup_lent` has each column in its place: `lookup-lent`. No contract of this crate names it; those of the crates above do.
-- Assumes nothing.
use mathlib.Core.Path.{◌≡◌, refl}
use Prim.Native.Nat.{ℕ}
use Rattle.laws.specs.Lent.{Borrowed}
use Rattle.layouts.specs.declared.Kind.{Kind}
use Rattle.layouts.specs.Lookups.{lookup_lent}

pub lookup-lent :
    (flags : ℕ) (kind : Kind) (glyphs substitutes : Borrowed ℕ)
    → let l = lookup_lent flags kind glyphs substitutes in (l.glyphs ≡ glyphs.entry.now) × (l.substitutes ≡ substitutes.entry.now)
lookup-lent flags kind glyphs substitutes = (refl, refl)
