-- `report::tally_text` meets its contract. Assumes nothing.
use mathlib.Core.Path.{◌≡◌, refl}
use native.Mathlib.Omega.{arith}
use lib.ListN.{length}
use Rattle.report.specs.Text.{codes, holes_in, tally_text}
use Rattle.report.proofs.Written.{written-front}
use Rattle.report.proofs.Lines.{tally_short}
use borrow.Author.Rules.{rules}
use Rattle.report.proofs.tally_text.Goals as goal

pub put_filled-requires : goal.put_filled-requires
unfolding tally_text codes holes_in
put_filled-requires c =
    let l : length c.args.out.now ≡ 158 = search rules in record {
      text_value = refl;
      numbers_in_bounds = omega (
        arith,
        tally_short c.args.totals (search rules) (search rules)
            (search rules) (search rules) (search rules) (search rules),
      );
    }

pub returns : goal.returns
unfolding tally_text codes
returns c =
    let a = c.args in
    let put = c.put_filled in
    let w = written-front put.result (tally_text a.totals) a.out.now put.new.out (put.ensures.value, put.ensures.out_after) in
    record { value = w.0; out_after = w.1.0; held = w.1.1 }
