-- `balance::row_ones` meets its contract. The invariant: what is counted and what is left to count is the sum. Assumes nothing.
use mathlib.Core.Path.{◌≡◌}
use Prim.Native.Nat.{◌+◌, ◌≤◌}
use lib.ListN.{drop}
use Rattle.balance.specs.Balance.{row_ones}
use Rattle.balance.proofs.row_ones.Given as goal

abbrev pub invariant-loop-column : goal.invariant-loop-column
invariant-loop-column l =
    (l.n ≤ l.column-index) × (l.n + row_ones (drop l.column-index l.columns) l.row ≡ row_ones l.columns l.row)
