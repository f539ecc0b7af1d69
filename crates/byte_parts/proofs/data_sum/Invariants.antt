-- `byte_parts::data_sum` meets its contract: after t turns it has the sum over t bytes. Assumes nothing.
use Rattle.std.proofs.Common.{◌≡◌}
use Rattle.byte_parts.specs.Parts.{sum_to}
use Rattle.byte_parts.proofs.data_sum.Given as goal

abbrev pub invariant-loop-t : goal.invariant-loop-t
invariant-loop-t l = l.sum ≡ sum_to l.step l.t l.word
