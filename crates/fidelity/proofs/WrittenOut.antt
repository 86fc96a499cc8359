-- What a contract says by `lookup_lent` and `list_lent` is what it says with each column written out, by computation: `writing`, `reading`, the statements of these calls.
-- Assumes nothing.
use mathlib.Core.Path.{◌≡◌, refl}
use mathlib.Core.List.{List}
use Prim.Native.Nat.{ℕ}
use Rattle.laws.specs.Lent.{Borrowed, BorrowedMut}
use Rattle.layouts.specs.declared.Kind.{Kind}
use Rattle.layouts.specs.Lookups.{lookup_of, lookup_lent}
use Rattle.layouts.specs.Written.{Written, Writing}
use Rattle.reading.specs.Read.{list_of, list_lent, Answer, Reading}

pub writing :
    (flags : ℕ) (kind : Kind) (glyphs substitutes : Borrowed ℕ) (area left : List ℕ) (r : Written)
    → Writing (lookup_lent flags kind glyphs substitutes) area r left ≡ Writing (lookup_of flags kind glyphs.entry.now substitutes.entry.now) area r left
writing flags kind glyphs substitutes area left r = refl

pub reading :
    (b : List ℕ) (glyphs substitutes : BorrowedMut ℕ) (r : Answer)
    → (let c = list_lent glyphs substitutes in Reading b c.entry r c.exit)
    ≡ Reading b (list_of glyphs.entry.now substitutes.entry.now) r (list_of glyphs.exit.now substitutes.exit.now)
reading b glyphs substitutes r = refl
