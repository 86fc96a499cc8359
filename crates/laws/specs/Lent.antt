-- What a call is lent, as its contract has it: `Slice` in a `requires`; `Borrowed` in an `ensures`, where `.entry` is what was lent and `.exit` what comes back.
-- `SliceMut` and `BorrowedMut` are the same of what the call may write.
-- Assumes nothing.
use Rattle.std.specs.Prelude.{List}
use Rattle.std.specs.Borrow.{Bor, MutBor}
use denote.Triple.Both.{Both}

-- a slice, or an array that is lent: its elements are a list
abbrev pub Slice : Type 0 → Type 0
Slice A = Bor (List A)

abbrev pub Borrowed : Type 0 → Type 0
Borrowed A = Both (Slice A) (Slice A)

abbrev pub SliceMut : Type 0 → Type 0
SliceMut A = MutBor (List A)

abbrev pub BorrowedMut : Type 0 → Type 0
BorrowedMut A = Both (SliceMut A) (SliceMut A)
