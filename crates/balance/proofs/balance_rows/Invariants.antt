-- `balance::balance_rows` meets its contract. The invariant: the first j rows hold. Assumes nothing.
use mathlib.Core.Path.{◌≡◌}
use lib.ListN.{length, take}
use Rattle.balance.specs.Balance.{balances_from}
use Rattle.balance.proofs.balance_rows.Given as goal

abbrev pub invariant-loop-j : goal.invariant-loop-j
invariant-loop-j l = (length l.rows ≡ 16) × (take l.j l.rows ≡ balances_from l.columns l.r l.j 0)
