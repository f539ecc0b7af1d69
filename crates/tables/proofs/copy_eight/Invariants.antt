-- `tables::copy_eight` meets its contract. The invariant: the first i columns are written. Assumes nothing.
use mathlib.Core.Path.{◌≡◌}
use Prim.Native.Nat.{ℕ, ◌+◌}
use lib.ListN.{length, take}
use Rattle.columns.specs.Mix.{column}
use Rattle.tables.specs.Tables.{up_to}
use Rattle.tables.proofs.copy_eight.Given as goal

abbrev pub invariant-loop-i : goal.invariant-loop-i
invariant-loop-i l = (length l.eight ≡ 8) × (take l.i l.eight ≡ up_to (λ (j : ℕ). column l.columns (l.at + j)) l.i)
