use mathlib.Core.Path.{◌≡◌, ◌∙◌}
use Prim.Native.Nat.{suc, ◌+◌, ◌-◌, ◌%◌, ◌/◌}
use native.Mathlib.Omega.{arith}
use lib.ListN.{length, length-set}
use Rattle.record.specs.Bytes.{bytes_of}
use Rattle.record.proofs.Bytes.{bytes-step, write_step, write_done}
use Rattle.record.proofs.put_number.Goals as goal

pub loop-byte-preserved : goal.loop-byte-preserved
loop-byte-preserved c =
    let l = c.loop-byte in
    let i = l.byte-index in
    let n = length l.byte-items - (i + 1) in
    let e : length l.byte-items - i ≡ suc n = omega arith in
    let step = write_step l.byte-items (bytes_of n (l.rest / 256)) i (l.rest % 256) (omega arith) in
    simp length-set (step ∙ rw (e, bytes-step) at l.invariant)

pub returns : goal.returns
unfolding bytes_of
returns c =
    let l = c.loop-byte in
    let z : length l.byte-items - l.byte-index ≡ 0 = omega arith in
    let e = write_done l.byte-items _ l.byte-index (omega arith) (rw z at l.invariant) in
    rw l.auto.byte-items at e
