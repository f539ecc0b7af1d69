-- `byte_code::solution_in` meets its contract. The invariant: what is found from i on is what is found from 0 on. Assumes nothing.
use Rattle.std.proofs.Common.{◌≡◌, ◌-◌}
use Rattle.byte_code.specs.Reading.{solution_in}
use Rattle.byte_code.proofs.solution_in.Given as goal

abbrev pub invariant-loop-i : goal.invariant-loop-i
invariant-loop-i l = solution_in l.s (7 - l.i) l.i ≡ solution_in l.s 7 0
