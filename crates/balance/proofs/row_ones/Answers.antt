use native.Mathlib.Omega.{arith}
use Rattle.columns.specs.Bits.{bit_at}
use Rattle.balance.proofs.Balancing.{sum_step, sum_end}
use Rattle.balance.proofs.row_ones.Goals as goal

pub loop-column-preserved : goal.loop-column-preserved
loop-column-preserved c =
    let step = sum_step (λ x. bit_at x c.args.row) c.args.columns.now c.loop-column.column-index (omega arith) in
    (omega arith, omega arith)

pub returns : goal.returns
returns c =
    let end = sum_end (λ x. bit_at x c.args.row) c.args.columns.now c.loop-column.column-index (omega arith) in
    (omega arith, omega arith)
