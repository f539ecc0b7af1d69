-- `order::put_columns` meets its contract. The invariant: the counts from c on, put from here on, give what all of them give.
-- Assumes nothing.
use Rattle.order.proofs.Walk.{Counted}
use Rattle.order.proofs.put_columns.Given as goal

abbrev pub invariant-loop-c : goal.invariant-loop-c
invariant-loop-c l = Counted l.initial.places l.r l.places l.i l.c
