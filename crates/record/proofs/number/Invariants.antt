-- `record::number` meets its contract. The invariant: v is the number that the bytes from i on say. Assumes nothing.
use mathlib.Core.Path.{◌≡◌}
use lib.ListN.{drop}
use Rattle.record.specs.Bytes.{number_of}
use Rattle.record.proofs.number.Given as goal

abbrev pub invariant-loop-i : goal.invariant-loop-i
invariant-loop-i l = l.v ≡ number_of (drop l.i l.part)
