-- `report::put_decimal` calls itself: the number falls. Assumes nothing.
use Rattle.report.proofs.+put_decimal.Given as goal

abbrev pub decreases-put_decimal : goal.decreases-put_decimal
decreases-put_decimal l = l.n
