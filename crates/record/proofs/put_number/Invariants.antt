-- `record::put_number` meets its contract. The invariant: the bytes written and the bytes of the rest are the bytes of v. Assumes nothing.
use mathlib.Core.Path.{◌≡◌}
use mathlib.Core.List.{◌++◌}
use Prim.Native.Nat.{◌-◌}
use lib.ListN.{length, take}
use Rattle.record.specs.Bytes.{bytes_of}
use Rattle.record.proofs.put_number.Given as goal

abbrev pub invariant-loop-byte : goal.invariant-loop-byte
invariant-loop-byte l =
    let n = length l.byte-items in
    take l.byte-index l.byte-items ++ bytes_of (n - l.byte-index) l.rest ≡ bytes_of n l.v
