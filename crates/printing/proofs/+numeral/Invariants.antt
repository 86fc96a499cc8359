-- The measure is the digits that are left.
use Rattle.printing.proofs.+numeral.Given as goal

abbrev pub decreases-numeral : goal.decreases-numeral
decreases-numeral l = l.w
