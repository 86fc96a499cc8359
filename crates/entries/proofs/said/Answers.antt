-- `entries::said` meets its contract.
-- Assumes nothing.
use Rattle.std.specs.Prelude.{Option}
use Prim.Native.Nat.{ℕ}
use mathlib.Core.List.{List}
use mathlib.Core.Path.{◌≡◌, ap, ◌∙◌}
use Rattle.entries.specs.declared.Entry.{Entry}
use Rattle.entries.specs.declared.State.{State}
use Rattle.entries.specs.Form.{fields, line_of}
use Rattle.entries.specs.Steps.{start, read_in, said_by}
use Rattle.entries.proofs.LineLaws.{line-said}
use Rattle.entries.proofs.said.Goals as goal

-- what the definition says of a line that was read
read : (s : State) {r : Option Entry} → r ≡ said_by s → (n : ℕ) (l : List ℕ) → s ≡ read_in (start n) l → r ≡ line_of (fields l)
read s e n l h = e ∙ ap said_by h ∙ line-said n l

pub returns-then-s : goal.returns-then-s
unfolding said_by
returns-then-s c =
    record { state = rw (c.if-s.true, c.byte.ensures); line = read c.args.s (rw (c.if-s.true, c.byte.ensures)) }

pub returns : goal.returns
unfolding said_by
returns c = record { state = rw c.if-s.false; line = read c.args.s (rw c.if-s.false) }
