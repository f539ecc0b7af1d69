-- `columns::solved` meets its contract. The invariant: the turns that are left give the whole. Assumes nothing.
use mathlib.Core.Path.{◌≡◌}
use Prim.Native.Nat.{◌-◌}
use lib.ListN.{length}
use Rattle.columns.specs.Solving.{solve_from, solve}
use Rattle.columns.proofs.solved.Given as goal

abbrev pub invariant-loop : goal.invariant-loop
invariant-loop l = solve_from l.checks l.s (length l.checks - l.counter) l.c ≡ solve l.checks l.s
