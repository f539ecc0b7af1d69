use native.Mathlib.Omega.{arith}
use lib.Count.{ones, ones-le}
use Rattle.balance.proofs.Balancing.{sum_step, sum_end}
use Rattle.balance.proofs.all_ones.Goals as goal

pub loop-column-preserved : goal.loop-column-preserved
loop-column-preserved c =
    let l = c.loop-column in
    let most = ones-le 16 _ (c.type_inv.columns l.column-index).fits in
    let step = sum_step ones c.args.columns.now l.column-index (omega arith) in
    (omega arith, omega arith)

pub returns : goal.returns
returns c =
    let end = sum_end ones c.args.columns.now c.loop-column.column-index (omega arith) in
    (omega arith, omega arith)
