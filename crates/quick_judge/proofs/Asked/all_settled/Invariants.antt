-- `quick_judge::Asked::all_settled` meets its contract. The invariant: whether the columns before i are settled. Assumes nothing.
use mathlib.Core.Path.{◌≡◌}
use Rattle.parity.specs.Below.{all_below}
use Rattle.quick_judge.specs.Quick.{settled_at}
use Rattle.quick_judge.proofs.Asked.all_settled.Given as goal

abbrev pub invariant-loop-i : goal.invariant-loop-i
invariant-loop-i l = l.ok ≡ all_below (settled_at l.columns l.self.r l.self.rows l.self.singles) l.i
