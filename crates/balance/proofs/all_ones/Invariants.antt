-- `balance::all_ones` meets its contract. The invariant: what is counted and what is left to count is the sum. Assumes nothing.
use mathlib.Core.Path.{◌≡◌}
use Prim.Native.Nat.{◌+◌, ◌*◌, ◌≤◌}
use lib.ListN.{drop}
use Rattle.balance.specs.Balance.{all_ones}
use Rattle.balance.proofs.all_ones.Given as goal

abbrev pub invariant-loop-column : goal.invariant-loop-column
invariant-loop-column l =
    (l.n ≤ 16 * l.column-index) × (l.n + all_ones (drop l.column-index l.columns) ≡ all_ones l.columns)
