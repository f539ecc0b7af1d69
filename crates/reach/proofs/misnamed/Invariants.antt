-- `reach::misnamed` meets its contract. The invariant: what is wrong among the places from i on is wrong among all. Assumes nothing.
use mathlib.Core.Path.{◌≡◌}
use lib.ListN.{drop}
use Rattle.reach.specs.Places.{misnamed}
use Rattle.reach.proofs.misnamed.Given as goal

abbrev pub invariant-loop-i : goal.invariant-loop-i
invariant-loop-i l = misnamed l.n (drop l.i l.places) ≡ misnamed l.n l.places
