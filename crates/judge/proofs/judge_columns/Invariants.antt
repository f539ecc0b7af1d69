-- `judge::judge_columns` meets its contract. The invariant: what the columns from i on are answered is what all are.
-- Assumes nothing.
use mathlib.Core.Path.{◌≡◌}
use Prim.Native.Nat.{◌-◌}
use lib.ListN.{length}
use Rattle.judge.specs.Judge.{judge_from, judge_columns}
use Rattle.judge.proofs.judge_columns.Given as goal

abbrev pub invariant-loop-i : goal.invariant-loop-i
invariant-loop-i l = judge_from l.columns l.r (length l.columns - l.i) l.i ≡ judge_columns l.columns l.r
