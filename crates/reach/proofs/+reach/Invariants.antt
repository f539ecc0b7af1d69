-- `reach::reach` calls itself: the places behind the first are fewer. Assumes nothing.
use lib.ListN.{length}
use Rattle.reach.proofs.+reach.Given as goal

abbrev pub decreases-reach : goal.decreases-reach
decreases-reach l = length l.bad.now
