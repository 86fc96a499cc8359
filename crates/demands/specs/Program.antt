-- What program `joinline` does, from the bytes that it reads to those that it prints: `read_all` its input, piece by piece; `Prints` the promise.
-- Assumes nothing.
use Rattle.std.specs.Prelude.{◌≡◌, ℕ, ◌≤◌, length, Option}
use mathlib.Core.List.{List, [], ◌∷◌, flatten}
use Rattle.std.proofs.lemmas.List.Edits.{sets}
use Rattle.entries.specs.Steps.{start}
use Rattle.texts.specs.Form.{Close}
use Rattle.texts.specs.Steps.{Held, Hold, read_on, closed}
use Rattle.printing.specs.Writing.{Wrote, filled}
use Rattle.answers.specs.Output.{limit, longest, output, answer_text}

-- pieces read one after the other, by `texts::read_on`
abbrev pub read_all : Held → List (List ℕ) → Held
read_all h [] = h
read_all h (piece ∷ pieces) = read_all (read_on h piece) pieces

-- However the input is cut into pieces: where `texts::close` answers `told` and leaves four columns of 512, and `answers::answer` then answers r and leaves
-- out' in memory that has room for the longest output, these are the bytes of `output`, all of them, from the start of the memory, and their number. What lies behind stays.
abbrev pub Prints : Type 0
Prints =
    (pieces : List (List ℕ)) (codes widths types categories out : List ℕ) → length codes ≡ limit → length widths ≡ limit → length types ≡ limit
    → length categories ≡ limit → longest ≤ length out → (told : Option ℕ) (codes' widths' types' categories' out' : List ℕ) (r : ℕ)
    → Close told codes' widths' types' categories' ≡ closed (read_all (Hold (start 0) codes widths types categories) pieces)
    → Wrote out' r ≡ filled out (answer_text told codes' widths' types' categories')
    → Wrote out' r ≡ Wrote (sets out 0 (output (flatten pieces))) (length (output (flatten pieces)))
