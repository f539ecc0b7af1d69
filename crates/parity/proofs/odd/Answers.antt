use mathlib.Core.Path.{ap}
use Prim.Native.Nat.{ℕ, ◌%◌}
use lib.Dec.{eqb}
use Rattle.parity.proofs.odd.Goals as goal

pub returns : goal.returns
returns c = ap (λ (n : ℕ). eqb (n % 2) 1) c.weight.ensures
