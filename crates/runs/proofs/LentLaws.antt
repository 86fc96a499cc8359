-- `columns_lent` has each column in its place, as it was lent and as it comes back: `columns-lent`; and so has `columns_mut_lent`: `columns-mut-lent`. No contract of this crate names it; those of the crates above do.
-- Assumes nothing.
use mathlib.Core.Path.{◌≡◌, refl}
use Prim.Native.Nat.{ℕ}
use lib.IntN.{ℤ}
use Rattle.laws.specs.Lent.{Borrowed, BorrowedMut}
use Rattle.runs.specs.Records.{columns_lent, columns_mut_lent}

pub columns-lent :
    (glyphs categories ignorables actions : Borrowed ℕ) (widths advances offsets : Borrowed ℤ)
    → let c = columns_lent glyphs widths categories ignorables actions advances offsets in
    (c.entry.glyphs ≡ glyphs.entry.now) × (c.entry.widths ≡ widths.entry.now) × (c.entry.categories ≡ categories.entry.now)
    × (c.entry.ignorables ≡ ignorables.entry.now) × (c.entry.actions ≡ actions.entry.now) × (c.entry.advances ≡ advances.entry.now)
    × (c.entry.offsets ≡ offsets.entry.now) × (c.exit.glyphs ≡ glyphs.exit.now) × (c.exit.widths ≡ widths.exit.now)
    × (c.exit.categories ≡ categories.exit.now) × (c.exit.ignorables ≡ ignorables.exit.now) × (c.exit.actions ≡ actions.exit.now)
    × (c.exit.advances ≡ advances.exit.now) × (c.exit.offsets ≡ offsets.exit.now)
columns-lent glyphs categories ignorables actions widths advances offsets =
    (refl, refl, refl, refl, refl, refl, refl, refl, refl, refl, refl, refl, refl, refl)

pub columns-mut-lent :
    (glyphs categories ignorables actions : BorrowedMut ℕ) (widths advances offsets : BorrowedMut ℤ)
    → let c = columns_mut_lent glyphs widths categories ignorables actions advances offsets in
    (c.entry.glyphs ≡ glyphs.entry.now) × (c.entry.widths ≡ widths.entry.now) × (c.entry.categories ≡ categories.entry.now)
    × (c.entry.ignorables ≡ ignorables.entry.now) × (c.entry.actions ≡ actions.entry.now) × (c.entry.advances ≡ advances.entry.now)
    × (c.entry.offsets ≡ offsets.entry.now) × (c.exit.glyphs ≡ glyphs.exit.now) × (c.exit.widths ≡ widths.exit.now)
    × (c.exit.categories ≡ categories.exit.now) × (c.exit.ignorables ≡ ignorables.exit.now) × (c.exit.actions ≡ actions.exit.now)
    × (c.exit.advances ≡ advances.exit.now) × (c.exit.offsets ≡ offsets.exit.now)
columns-mut-lent glyphs categories ignorables actions widths advances offsets =
    (refl, refl, refl, refl, refl, refl, refl, refl, refl, refl, refl, refl, refl, refl)
