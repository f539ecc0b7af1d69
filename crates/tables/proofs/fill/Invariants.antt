-- `tables::fill` meets its contract. The invariant: the tables of the bytes before j are written. Assumes nothing.
use mathlib.Core.Path.{◌≡◌}
use Rattle.record.specs.Run.{over}
use Rattle.tables.specs.Tables.{tables}
use Rattle.tables.proofs.fill.Given as goal

abbrev pub invariant-loop-j : goal.invariant-loop-j
invariant-loop-j l = l.table ≡ over (tables l.halves l.columns l.j) l.initial.table
