-- `put_back::back_in` meets its contract. The invariant: what is left to put back gives what all gives. Assumes nothing.
use Rattle.std.proofs.Common.{◌≡◌, ◌≤◌, ◌-◌}
use Rattle.put_back.specs.Back.{back_from}
use Rattle.put_back.proofs.back_in.Given as goal

abbrev pub invariant-loop-reader : goal.invariant-loop-reader
invariant-loop-reader l = record {
  place : l.reader.place ≤ l.used;
  lent : l.reader.journal.now ≡ l.journal;
  left : back_from l.d l.journal l.reader.place (l.used - l.reader.place) l.image ≡ back_from l.d l.journal l.used 0 l.initial.image;
}

abbrev pub decreases-loop-reader : goal.decreases-loop-reader
decreases-loop-reader l = l.reader.place
