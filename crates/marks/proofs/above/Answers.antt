-- `marks::above` meets its contract. Assumes nothing.
use native.Mathlib.Omega.{arith}
use lib.Pow.{pow_mono}
use Rattle.marks.proofs.above.Goals as goal

pub returns-then-k-ge64 : goal.returns-then-k-ge64
returns-then-k-ge64 c = omega (arith, pow_mono {i = 64} {j = c.args.k} (omega arith))
