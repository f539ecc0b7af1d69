-- `faults::first` meets its contract. The invariant: the first place from i on is the first of all. Assumes nothing.
use mathlib.Core.Path.{◌≡◌}
use Prim.Native.Nat.{◌-◌}
use lib.ListN.{length}
use Rattle.faults.specs.Faults.{first_from, first_past}
use Rattle.faults.proofs.first.Given as goal

abbrev pub invariant-loop-i : goal.invariant-loop-i
invariant-loop-i l = first_from l.fault l.places (length l.places - l.i) l.i ≡ first_past l.fault l.places l.from
