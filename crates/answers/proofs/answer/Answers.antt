-- `answers::answer` meets its contract, a case of what a text comes to a path.
-- Assumes nothing.
use Rattle.answers.proofs.AnswerLaws.{answered}
use Rattle.answers.proofs.answer.Goals as goal

pub returns-in-None : goal.returns-in-None
returns-in-None c =
    let a = c.args in
    let both = answered a.told a.codes.now a.widths.now a.types.now a.categories.now a.out.now {y = _} (rw c.in-None.is c.unreadable.ensures) in
    record { columns = both.0; text = both.1 }

pub returns-in-Some : goal.returns-in-Some
returns-in-Some c =
    let a = c.args in
    let both = answered a.told a.codes.now a.widths.now a.types.now a.categories.now a.out.now {y = _} (rw c.in-Some.is c.lend.ensures) in
    record { columns = both.0; text = both.1 }
