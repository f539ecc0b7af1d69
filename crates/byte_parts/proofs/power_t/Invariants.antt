-- `byte_parts::power_t` meets its contract: after as many turns it has that power. Assumes nothing.
use Rattle.std.proofs.Common.{◌≡◌, ◌<◌}
use Rattle.byte_parts.specs.Vectors.{power_t}
use Rattle.byte_parts.proofs.power_t.Given as goal

abbrev pub invariant-loop : goal.invariant-loop
invariant-loop l = (l.u < 8) × (l.u ≡ power_t l.counter l.v)
