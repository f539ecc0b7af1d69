-- `marks::listed` meets its contract. The invariant: the first `bad` elements of the list are those of the records before x.
-- Assumes nothing.
use mathlib.Core.Path.{◌≡◌}
use Prim.Native.Nat.{◌≤◌}
use Rattle.record.specs.Layout.{record_size}
use Rattle.record.specs.Journal.{needed_of}
use Rattle.marks.specs.Marks.{mark_of, Listed}
use Rattle.marks.proofs.listed.Given as goal

abbrev pub invariant-loop-x : goal.invariant-loop-x
invariant-loop-x l =
    record {
      count : l.bad ≡ needed_of (record_size l.d) (mark_of l.halves l.table l.d l.strays) l.run l.x;
      few : l.bad ≤ l.x;
      listed : Listed l.halves l.d l.table l.strays l.run l.x l.list l.bad;
    }
