-- A held line as it is renewed, from what a function is lent: `held_now` as a `requires` has it, `held_lent` as an `ensures` has it.
-- Assumes nothing.
use denote.Triple.Both.{Both}
use Rattle.std.specs.Prelude.{ℕ}
use Rattle.laws.specs.Lent.{SliceMut, BorrowedMut}
use Rattle.lines.specs.Held.{Line, line_of}
use Rattle.renewing.specs.declared.held.Held.{Held}

-- its actions and masks are lent apart, since they are written
abbrev pub held_now : Held → SliceMut ℕ → SliceMut ℕ → Line
held_now held actions masks =
    line_of held.codes.now held.letters.types.now held.letters.categories.now held.base.now actions.now masks.now

abbrev pub held_lent : Held → BorrowedMut ℕ → BorrowedMut ℕ → Both Line Line
held_lent held actions masks = record { entry = held_now held actions.entry masks.entry; exit = held_now held actions.exit masks.exit }
