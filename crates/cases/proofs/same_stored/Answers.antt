-- `cases::same_stored` meets its contract: of bytes the kit's comparison holds exactly of equal ones.
-- Assumes nothing.
use mathlib.Core.Bool.{Bool}
use mathlib.Core.Path.{ap, ◌∙◌}
use Rattle.cases.specs.Comparing.{Compare, against}
use Rattle.cases.proofs.ComparingLaws.{same-told}
use Rattle.cases.proofs.same_stored.Goals as goal

pub returns-in-Some : goal.returns-in-Some
returns-in-Some g c =
    let v = c.view_u8 in
    let bytes = c.in-Some.bytes.now in
    let held = rw c.in-Some.is at c.held.ensures in
    rw (held.0, ← held.1)
    (ap (λ (b : Bool). Compare b v.new.at) (same-told v.result.now bytes c.same.result c.same.ensures) ∙ ap (against bytes) v.ensures)
