-- What UTR 53 says of modifier combining marks (MCM), for a sequence of marks in canonical order: `Least`, `Rising` that order; `of_class`, `is_modifier` tests of a mark;
-- `lead`, `without` the MCM at the beginning of the sequence of a class, and all others; `to_beginning` a step of the algorithm; `utr53` its two steps for these marks; `arranged` what they come
-- to, with the classes renumbered. The step before these, which moves shadda, is not done here. That document
-- speaks of marks of classes above 0; nothing here asks for it.
-- Assumes nothing.
use Rattle.std.specs.Prelude.{Bool, cond, List, [], ◌∷◌, ◌++◌, ℕ, ◌≤◌, eqb}
use Rattle.laws.specs.Lists.{those, front}
use Rattle.blocks.specs.Marks.{Mark}
use Rattle.marks.specs.Modifiers.{modifier}
use Rattle.marks.specs.Passes.{numbered}

-- no class is below c
abbrev pub Least : ℕ → List Mark → Type 0
Least c [] = Unit
Least c (m ∷ ms) = (c ≤ m.class) × Least c ms

-- canonical order: classes do not fall
abbrev pub Rising : List Mark → Type 0
Rising [] = Unit
Rising (m ∷ ms) = Least m.class ms × Rising ms

abbrev pub of_class : ℕ → Mark → Bool
of_class class m = eqb m.class class

abbrev pub is_modifier : Mark → Bool
is_modifier m = modifier m.code

-- the MCM that the sequence of marks of a class begins with
abbrev pub lead : ℕ → List Mark → List Mark
lead class l = front is_modifier (those (of_class class) l)

-- all marks but these, in their order: behind the first mark of the class that is no MCM nothing is left out
abbrev pub without : ℕ → List Mark → List Mark
without class [] = []
without class (m ∷ ms) = cond (of_class class m) (cond (is_modifier m) (without class ms) (m ∷ ms)) (m ∷ without class ms)

-- a step of the algorithm: where the sequence of a class begins with MCM, these go to the beginning of all
abbrev pub to_beginning : ℕ → List Mark → List Mark
to_beginning class l = lead class l ++ without class l

-- the step for class 230, then the one for class 220, whose MCM so come to stand before those of 230
abbrev pub utr53 : List Mark → List Mark
utr53 l = to_beginning 220 (to_beginning 230 l)

-- the 220 block, the 230 block and the rest, the blocks with new classes
abbrev pub arranged : ℕ → ℕ → List Mark → List Mark
arranged low high l = numbered low (lead 220 l) ++ (numbered high (lead 230 l) ++ without 220 (without 230 l))
