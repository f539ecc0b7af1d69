-- `judge::judge_rest` meets its contract. The invariant: what the places from i on are answered is what all past k are. Assumes nothing.
use mathlib.Core.Path.{◌≡◌}
use Prim.Native.Nat.{◌-◌}
use lib.ListN.{length}
use Rattle.judge.specs.Judge.{leftover_from, judge_rest}
use Rattle.judge.proofs.judge_rest.Given as goal

abbrev pub invariant-loop-i : goal.invariant-loop-i
invariant-loop-i l = leftover_from l.places (length l.places - l.i) l.i ≡ judge_rest l.places l.k
