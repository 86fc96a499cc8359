-- The promise of `joinline` holds.
-- Assumes nothing.
use mathlib.Core.Path.{◌≡◌, refl, sym, ap, ◌∙◌}
use mathlib.Core.List.{List, [], ◌∷◌, flatten}
use Prim.Native.Nat.{ℕ}
use native.Mathlib.Omega.{arith}
use Rattle.entries.specs.Steps.{start}
use Rattle.texts.specs.Steps.{Held, Hold, read_on, closed}
use Rattle.texts.proofs.TextLaws.{Short, read-append, read_whole}
use Rattle.printing.specs.Writing.{filled}
use Rattle.answers.proofs.AnswerLaws.{read_answer}
use Rattle.answers.proofs.FitLaws.{filled-whole}
use Rattle.demands.specs.Program.{read_all, Prints}

-- pieces read one after the other are the text read
all_read : (h : Held) (pieces : List (List ℕ)) → read_all h pieces ≡ read_on h (flatten pieces)
unfolding flatten
all_read h [] = refl
all_read h (piece ∷ pieces) = all_read (read_on h piece) pieces ∙ sym (read-append h piece (flatten pieces))

pub prints : Prints
prints pieces c w t g out hc hw ht hg room told c' w' t' g' out' r closes writes =
    let text = flatten pieces in
    let short : Short c w t g = record { codes = omega arith; widths = omega arith; types = omega arith; categories = omega arith } in
    let reads = closes ∙ ap closed (all_read (Hold (start 0) c w t g) pieces) ∙ read_whole text c w t g short in
    writes ∙ ap (filled out) (read_answer text c w t g (omega arith) (omega arith) (omega arith) (omega arith) told c' w' t' g' reads) ∙ filled-whole out text room
