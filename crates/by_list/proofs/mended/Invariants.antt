-- `by_list::mended` meets its contract. The invariant: what the plain pass has done when so many listed records are passed. Assumes nothing.
use mathlib.Core.Path.{◌≡◌}
use Prim.Native.Nat.{◌*◌}
use lib.ListN.{length}
use Rattle.record.specs.Layout.{entry_size, records_in}
use Rattle.at_record.specs.Under.{under}
use Rattle.by_list.proofs.Walked.{Reached}
use Rattle.by_list.proofs.mended.Given as goal

abbrev pub invariant-loop-both : goal.invariant-loop-both
invariant-loop-both l =
    record {
      used : l.used ≡ entry_size l.reader.form.d * l.both-index;
      long : length l.run ≡ length l.initial.run;
      reached : Reached (under l.reader) l.stamp l.first l.initial.run l.initial.journal
          (records_in l.reader.form.d l.initial.run) l.both-index l.run l.journal l.tally;
    }
