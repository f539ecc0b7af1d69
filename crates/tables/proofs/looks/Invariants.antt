-- `tables::looks` meets its contract. The invariant: s is what the bytes before j say. Assumes nothing.
use mathlib.Core.Path.{◌≡◌}
use Rattle.tables.specs.Tables.{lookups}
use Rattle.tables.proofs.looks.Given as goal

abbrev pub invariant-loop-j : goal.invariant-loop-j
invariant-loop-j l = l.s ≡ lookups l.halves l.table l.bytes l.j
