-- `code::lay_singles` meets its contract. The invariant: j single ones stand behind the first k columns, and zeros past them.
-- Assumes nothing.
use mathlib.Core.Path.{◌≡◌}
use Prim.Native.Nat.{◌+◌}
use lib.ListN.{take}
use Rattle.judge.specs.Rule.{matrix}
use Rattle.code.proofs.Laying.{laid}
use Rattle.code.proofs.lay_singles.Given as goal

abbrev pub invariant-loop-j : goal.invariant-loop-j
invariant-loop-j l = l.all ≡ laid (matrix (take l.k l.initial.all) l.r) (l.k + l.j)
