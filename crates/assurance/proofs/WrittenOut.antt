-- What a contract says by `inputs_lent` is what it says with each column written out, by computation: `planning`, the statement of the call.
-- Assumes nothing.
use mathlib.Core.Path.{◌≡◌, refl}
use mathlib.Core.List.{List}
use Prim.Native.Nat.{ℕ}
use Rattle.laws.specs.Lent.{Borrowed}
use Rattle.fallback.specs.Plan.{inputs_of, inputs_lent}
use Rattle.fallback.specs.Planned.{PlanAnswer, Planning}

pub planning :
    (masks : List ℕ) (codes glyphs shaping forms c3 l3 c2 l2 cm lm : Borrowed ℕ) (area left : List ℕ) (r : PlanAnswer)
    → Planning (inputs_lent masks codes glyphs shaping forms c3 l3 c2 l2 cm lm) area r left
    ≡ Planning
    (inputs_of masks codes.entry.now glyphs.entry.now shaping.entry.now forms.entry.now c3.entry.now l3.entry.now c2.entry.now l2.entry.now cm.entry.now lm.entry.now)
    area
    r
    left
planning masks codes glyphs shaping forms c3 l3 c2 l2 cm lm area left r = refl
