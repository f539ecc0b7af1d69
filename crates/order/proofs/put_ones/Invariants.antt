-- `order::put_ones` meets its contract. The invariant: what is ahead, put from here on, gives what all of them give. Assumes nothing.
use Rattle.order.proofs.Walk.{Walked}
use Rattle.order.proofs.put_ones.Given as goal

abbrev pub invariant-loop-x : goal.invariant-loop-x
invariant-loop-x l = Walked l.initial.places l.at l.r l.c l.places l.i l.x
