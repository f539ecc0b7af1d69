-- `report::put_filled` meets its contract: at each turn, once the rest is written too, all of the text is. Assumes nothing.
use Rattle.report.proofs.Filled.{Begun}
use Rattle.report.proofs.put_filled.Given as goal

abbrev pub invariant-loop-c : goal.invariant-loop-c
invariant-loop-c l = Begun l.text l.numbers l.initial.out l.initial.at l.out l.at l.k l.c-index
