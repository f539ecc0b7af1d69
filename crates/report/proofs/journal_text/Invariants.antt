-- `report::journal_text` meets its contract: the lines of the entries passed stand at the front of the buffer, the others are left.
-- Assumes nothing.
use Rattle.std.proofs.Common.{◌≡◌, ◌≤◌, ◌*◌, length, drop}
use Rattle.std.specs.Slice.Iter.{chunks_exact_rest, chunks_exact_size}
use Rattle.record.specs.Layout.{data_size, entry_size}
use Rattle.record.specs.Run.{over}
use Rattle.report.proofs.Lines.{lines_to}
use Rattle.report.proofs.journal_text.Given as goal

abbrev pub invariant-loop-entry : goal.invariant-loop-entry
invariant-loop-entry l = record {
  can_next : (goal.iterator-loop-entry).can_next l.entry-iterator;
  ends : (goal.iterator-loop-entry).is_finite l.entry-iterator;
  size : chunks_exact_size l.entry-iterator ≡ entry_size data_size;
  left : chunks_exact_rest l.entry-iterator ≡ drop (length l.yielded * entry_size data_size) l.journal;
  inside : length l.yielded * entry_size data_size ≤ length l.journal;
  lines : l.out ≡ over (lines_to l.journal (length l.yielded)) l.initial.out;
  at : l.at ≡ length (lines_to l.journal (length l.yielded));
}
