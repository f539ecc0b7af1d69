-- `tables::fill_values` meets its contract. The invariant: the table holds the mixes of the columns passed. Assumes nothing.
use mathlib.Core.Path.{◌≡◌}
use Prim.Native.Nat.{◌^◌}
use lib.ListN.{take}
use Rattle.columns.specs.Mix.{mix}
use Rattle.tables.specs.Tables.{up_to}
use Rattle.tables.proofs.fill_values.Given as goal

abbrev pub invariant-loop-column : goal.invariant-loop-column
invariant-loop-column l =
    (l.size ≡ 2 ^ l.column-index) × (take l.size l.table ≡ up_to (mix (take l.column-index l.columns)) l.size)
