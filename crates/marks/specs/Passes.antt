-- Reordering of modifier marks over a part of a line (document 01, "Marks"; the passes of the source), as a list of marks: `smaller`, `moves` the tests of a pass; `skipped`, `block`, `others` what a pass leaves where it is, what it moves, and all that it does not move;
-- `reorder_classes` the classes of the passes; `new_class_lem`, `renumber`, `numbered` the number that a block gets; `passes` the marks after the passes;
-- `Span`, `merged`, `ranges` the ranges given to `merge_clusters`.
-- Assumes nothing.
use Rattle.std.specs.Prelude.{Bool, cond, ◌&&◌, List, [], ◌∷◌, ◌++◌, map, ℕ, ◌+◌, eqb, ltb, length}
use Rattle.laws.specs.Lists.{front, behind}
use Rattle.blocks.specs.Marks.{Mark, mark}
use Rattle.marks.specs.Modifiers.{modifier}

-- "A pass skips smaller classes"
unfoldable pub smaller : ℕ → Mark → Bool
smaller class m = ltb m.class class

abbrev pub skipped : ℕ → List Mark → List Mark
skipped class l = front (smaller class) l

-- "the marks at that spot that have exactly the class and stand in the source's list of 14 codes": where the mark at that spot is of a larger class, none
unfoldable pub moves : ℕ → Mark → Bool
moves class m = eqb m.class class && modifier m.code

abbrev pub block : ℕ → List Mark → List Mark
block class l = front (moves class) (behind (smaller class) l)

-- "others keeping their order"
abbrev pub others : ℕ → List Mark → List Mark
others class l = skipped class l ++ behind (moves class) (behind (smaller class) l)

-- "two passes, class 220 then 230"
abbrev pub reorder_classes : List ℕ
reorder_classes = 220 ∷ 230 ∷ []

-- "They get one of two lent class numbers": `low` for 220, `high` for 230
abbrev pub new_class_lem : ℕ → ℕ → ℕ → ℕ
new_class_lem low high class = cond (eqb class 220) low high

-- marks that all get the class k
abbrev pub renumber : ℕ → Mark → Mark
renumber k m = mark m.code k

abbrev pub numbered : ℕ → List Mark → List Mark
numbered k l = map (renumber k) l

-- a pass moves its block to the front; the next one, for which "start advances past them", is over the others. "At the end of the range it leaves both
-- passes at once" needs no case of its own: what a pass has skipped is smaller than the next class too
unfoldable pub passes : (ℕ → ℕ) → List ℕ → List Mark → List Mark
passes new [] l = l
passes new (class ∷ classes) l = numbered (new class) (block class l) ++ passes new classes (others class l)

-- a range of places, to the one before `to`
pub data Span : Type 0 where
  Over : (from to : ℕ) → Span

-- the range of a block: from start to the block's end, also where nothing moves; an empty block has none
abbrev pub merged : ℕ → List Mark → List Mark → List Span
merged start skips [] = []
merged start skips (m ∷ ms) = Over start (start + (length skips + length (m ∷ ms))) ∷ []

-- "the ranges given to `merge_clusters`" by the passes over marks that begin at a place
unfoldable pub ranges : ℕ → List ℕ → List Mark → List Span
ranges start [] l = []
ranges start (class ∷ classes) l =
    merged start (skipped class l) (block class l) ++ ranges (start + length (block class l)) classes (others class l)
