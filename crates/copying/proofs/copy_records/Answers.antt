-- `copying::copy_records` meets its contract: what is left of the part, pasted, makes the whole, in each column.
-- Assumes nothing.
use Prim.Native.Nat.{◌+◌, ◌*◌, ◌<◌}
use native.Mathlib.Omega.{arith}
use mir.Syntax.{w32}
use mir.Val.{SFits}
use Rattle.fitting.proofs.SignedLaws.{back}
use Rattle.runs.specs.Records.{columns_read}
use Rattle.copying.proofs.CopyLaws.{copying_all_starts, copying_all_next, copying_all_ends}
use Rattle.copying.proofs.copy_records.Goals as goal
use Rattle.copying.proofs.copy_records.Goals.{In-loop-j}

-- the place is one that memory has
low : (c : In-loop-j) → (c.args.o + c.loop-j.j) * 4 < 18446744073709551616
low c = omega (arith, c.loop-j-test.true, c.loop-j.invariant.of_widths.long, c.requires.room.for_widths)

pub loop-j-init : goal.loop-j-init
loop-j-init c = copying_all_starts _ _ _ _ _

pub loop-j-preserved : goal.loop-j-preserved
loop-j-preserved c =
    let a = c.args in
    let width_fits : SFits w32 c.at-width.result = record { sfits = c.at-width.type_inv } in
    let advance-fits : SFits w32 c.at-advance.result = record { sfits = c.at-advance.type_inv } in
    let offset-fits : SFits w32 c.at-offset.result = record { sfits = c.at-offset.type_inv } in
    rw (back width_fits, back advance-fits, back offset-fits, c.at-width.ensures, c.at-advance.ensures, c.at-offset.ensures)
    (copying_all_next a.i a.s (columns_read a.line) a.o _ c.loop-j.j _ c.loop-j.invariant c.requires.inside c.requires.even c.requires.room c.loop-j-test.true)

pub returns : goal.returns
returns c =
    let a = c.args in
    copying_all_ends a.i a.s (columns_read a.line) a.o _ c.loop-j.j _ c.loop-j.invariant c.requires.inside c.requires.even c.requires.room c.loop-j-test.false
