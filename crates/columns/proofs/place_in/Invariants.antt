-- `columns::place_in` meets its contract. The invariant: the place among the columns from i on is the place among all. Assumes nothing.
use Prim.Native.Nat.{◌+◌}
use mathlib.Core.Path.{◌≡◌}
use lib.ListN.{drop}
use Rattle.columns.specs.Mix.{place_in}
use Rattle.columns.proofs.place_in.Given as goal

abbrev pub invariant-loop-i : goal.invariant-loop-i
invariant-loop-i l = l.i + place_in (drop l.i l.columns) l.s ≡ place_in l.columns l.s
