-- `report::refused_text` meets its contract. Assumes nothing.
use mathlib.Core.Path.{◌≡◌, refl}
use native.Mathlib.Omega.{arith}
use lib.ListN.{length}
use Rattle.report.specs.Text.{codes, holes_in, refused_text}
use Rattle.report.proofs.Written.{written-front}
use Rattle.report.proofs.Lines.{refused_short}
use borrow.Author.Rules.{rules}
use Rattle.report.proofs.refused_text.Goals as goal

pub put_filled-requires : goal.put_filled-requires
unfolding refused_text codes holes_in
put_filled-requires c =
    let l : length c.args.out.now ≡ 29 = search rules in
    record { text_value = refl; numbers_in_bounds = omega (arith, refused_short c.args.number (search rules)) }

pub returns : goal.returns
unfolding refused_text codes
returns c =
    let a = c.args in
    let put = c.put_filled in
    let w = written-front put.result (refused_text a.number) a.out.now put.new.out (put.ensures.value, put.ensures.out_after) in
    record { value = w.0; out_after = w.1.0; held = w.1.1 }
