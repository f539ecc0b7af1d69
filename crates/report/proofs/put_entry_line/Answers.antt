-- `report::put_entry_line` meets its contract: the numbers of the entry's head. Assumes nothing.
use mathlib.Core.Path.{refl, ap}
use native.Mathlib.Omega.{arith}
use lib.ListN.{length}
use Rattle.report.specs.Text.{codes, holes_in, entry_line}
use Rattle.report.proofs.Lines.{line_is, line_short}
use Rattle.report.proofs.put_entry_line.Goals as goal

pub put_filled-requires : goal.put_filled-requires
unfolding entry_line codes holes_in
put_filled-requires c =
    let e = c.args.entry.now in
    let read = c.number-n in
    let last = c.number-syndrome in record {
      text_value = refl;
      numbers_in_bounds = omega (
        arith,
        ap length (line_is e read.result last.result read.ensures last.ensures),
        line_short e (λ k. omega (arith, c.type_inv.entry k)),
      );
    }

pub returns : goal.returns
unfolding entry_line codes
returns c =
    let read = c.number-n in
    let last = c.number-syndrome in
    let e = line_is c.args.entry.now read.result last.result read.ensures last.ensures in
    record { value = rw e at c.put_filled.ensures.value; out_after = rw e at c.put_filled.ensures.out_after }
