-- `tables::fill_bit` meets its contract. The invariant: the first size + b values are written. Assumes nothing.
use mathlib.Core.Path.{◌≡◌}
use mathlib.Core.List.{◌++◌}
use Prim.Native.Nat.{◌+◌}
use lib.Bits.{bit_xor}
use lib.ListN.{get_or, take}
use Rattle.tables.specs.Tables.{up_to}
use Rattle.tables.proofs.fill_bit.Given as goal

abbrev pub invariant-loop-b : goal.invariant-loop-b
invariant-loop-b l =
    take (l.size + l.b) l.table ≡ take l.size l.initial.table ++ up_to (λ i. bit_xor (get_or l.initial.table i 0) l.column) l.b
