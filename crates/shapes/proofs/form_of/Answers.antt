-- `shapes::form_of` meets its contract: its choices, put together, are those of the definition.
-- Assumes nothing.
use mathlib.Core.Path.{refl}
use Rattle.shapes.specs.Joining.{form}
use Rattle.shapes.proofs.form_of.Goals as goal

pub returns : goal.returns
unfolding form
returns c =
    rw
    (c.from.ensures, c.choose-9.ensures, c.choose-8.ensures, c.choose-7.ensures, c.choose-6.ensures, c.alaph_form.ensures, c.choose-5.ensures, c.choose-4.ensures, c.choose-3.ensures, c.choose-2.ensures, c.choose.ensures, c.eq.ensures, c.eq-2.ensures, c.eq-3.ensures, c.eq-4.ensures, c.eq-5.ensures, c.reaches_back-back.ensures, c.reaches_on-on.ensures)
    refl
