-- A turn of the loop over a piece of a text.
-- Assumes nothing.
use Prim.Native.Nat.{ℕ, ◌+◌, ◌<◌}
use mathlib.Core.List.{List}
use mathlib.Core.Path.{◌≡◌, sym, ap, ◌∙◌}
use lib.ListN.{length, get_or, drop}
use Rattle.laws.proofs.LoopLaws.{drop-next}
use Rattle.texts.specs.Steps.{Held, stepped, read_on}

-- A byte is read: what is left of the piece makes of the state behind it what it made, with the byte, of the state before it.
pub read_next :
    (piece : List ℕ) (i : ℕ) (h k : Held) → i < length piece → k ≡ stepped h (get_or piece i 0) → read_on h (drop i piece) ≡ read_on k (drop (i + 1) piece)
read_next piece i h k l e = ap (read_on h) (drop-next piece i 0 l) ∙ ap (λ (x : Held). read_on x (drop (i + 1) piece)) (sym e)
