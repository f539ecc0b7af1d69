-- `record::put_each` meets its contract. The invariant: the bytes written and the bytes that are left are all of them. Assumes nothing.
use Rattle.std.specs.Prelude.{◌≡◌, ◌++◌, length, take, drop}
use Rattle.record.proofs.put_each.Given as goal

abbrev pub invariant-loop-i : goal.invariant-loop-i
invariant-loop-i l = (length l.part ≡ length l.initial.part) × (take l.i l.part ++ drop l.i l.bytes ≡ l.bytes)
