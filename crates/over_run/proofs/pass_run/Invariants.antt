-- `over_run::pass_run` meets its contract. The invariant: run and journal are as they were, but for what the records before i leave and
-- say. Assumes nothing.
use mathlib.Core.Path.{◌≡◌}
use Prim.Native.Nat.{◌*◌}
use lib.ListN.{length}
use Rattle.record.specs.Layout.{record_size, entry_size, in_bytes}
use Rattle.record.specs.Run.{over}
use Rattle.record.specs.Tally.{tally_of}
use Rattle.at_record.specs.Outcome.{verdict_of}
use Rattle.at_record.specs.Under.{under}
use Rattle.over_run.proofs.Turns.{left_to, entries_to, count_to}
use Rattle.over_run.proofs.pass_run.Given as goal

abbrev pub invariant-loop-i : goal.invariant-loop-i
invariant-loop-i l =
    let f = under l.reader in
    record {
      left : l.run ≡ over (left_to f l.initial.run l.i) l.initial.run;
      entered : l.journal ≡ over (in_bytes (entries_to f l.stamp l.first l.initial.run l.i)) l.initial.journal;
      in_use : l.used ≡ entry_size f.d * count_to f l.initial.run l.i;
      same_length : length l.run ≡ length l.initial.run;
      counted : l.tally ≡ tally_of (record_size f.d) (verdict_of f) l.initial.run l.i;
    }
