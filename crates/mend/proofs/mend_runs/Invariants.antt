-- `mend::mend_runs` meets its contract. The invariant: the image is as a pass over the records below `start` leaves it, and the sums are
-- the tally of these records. Assumes nothing.
use Rattle.std.proofs.Common.{◌≡◌, ◌≤◌}
use Rattle.record.specs.Layout.{data_size, records_in}
use Rattle.mend.specs.Mend.{run_tally, run_left, as_totals}
use Rattle.mend.proofs.mend_runs.Given as goal

abbrev pub invariant-loop-start : goal.invariant-loop-start
invariant-loop-start l = record {
  within : l.start ≤ records_in data_size l.initial.image;
  left : l.image ≡ run_left l.initial.image 0 l.start;
  totals : l.totals ≡ as_totals (run_tally l.initial.image 0 l.start);
}
