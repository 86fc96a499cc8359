-- `refusals::sooner` meets its contract: the order of refusals is that of their numbers.
-- Assumes nothing.
use mathlib.Core.Path.{sym, ap, ◌∙◌}
use Rattle.refusals.specs.Numbers.{number_of}
use Rattle.refusals.proofs.VerdictLaws.{number-min, sooner-none}
use Rattle.refusals.proofs.sooner.Goals as goal

pub returns-in-Err-Err : goal.returns-in-Err-Err
returns-in-Err-Err c =
    let i = c.in-Err-Err in
    rw (i.is-0, i.is-1) (ap number_of c.min.ensures ∙ number-min i.a i.b)

pub returns-in-Err-Ok : goal.returns-in-Err-Ok
returns-in-Err-Ok c =
    let i = c.in-Err-Ok in
    rw (i.is-0, i.is-1) (sym (sooner-none i.a))

pub returns-in-Ok-default : goal.returns-in-Ok-default
returns-in-Ok-default c = rw c.in-Ok-default.is-0
