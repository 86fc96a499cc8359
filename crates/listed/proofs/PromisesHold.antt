-- What the look-up promises holds: the rule by the laws of rows that rise, the examples by computing.
-- Assumes nothing.
use mathlib.Core.Path.{refl}
use Rattle.listed.specs.Rows.{type_in}
use Rattle.listed.specs.Listed.{listed}
use Rattle.listed.specs.Promises.{HeldType, OneRow, Unlisted, Apart, NoneSplit, ListedRises, Examples}
use Rattle.listed.proofs.RisingLaws.{type-held, held-once, type_unheld, apart, none-split}

pub held-type : HeldType
held-type rows e r m = type-held rows e m

pub one-row : OneRow
one-row rows e r s m n = held-once rows e m n

pub unlisted : Unlisted
unlisted = type_unheld

pub rows_apart : Apart
rows_apart = apart

pub rows_whole : NoneSplit
rows_whole rows e r s m n = none-split rows e m n

pub listed-rises : ListedRises
unfolding listed
listed-rises = refl

pub examples_hold : Examples
unfolding type_in listed
examples_hold = refl
