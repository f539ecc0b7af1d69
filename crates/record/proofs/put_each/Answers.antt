use mathlib.Core.Path.{◌≡◌, ◌∙◌}
use mathlib.Core.List.{[]}
use Prim.Native.Nat.{◌+◌}
use native.Mathlib.Numerals.{add-one}
use native.Mathlib.Omega.{arith}
use lib.ListN.{drop, get_or, length-set, drop_of_length-le}
use lib.Seq.{drop-cons}
use Rattle.record.proofs.Bytes.{write_step, write_done}
use Rattle.record.proofs.put_each.Goals as goal

pub loop-i-preserved : goal.loop-i-preserved
loop-i-preserved c =
    let l = c.loop-i in
    let bytes = c.args.bytes.now in
    let step = write_step l.part (drop (l.i + 1) bytes) l.i (get_or bytes l.i 0) (omega arith) in
    (simp length-set l.invariant.0, step ∙ rw (drop-cons bytes l.i 0 (omega arith), ← add-one) at l.invariant.1)

pub returns : goal.returns
returns c =
    let l = c.loop-i in
    let bytes = c.args.bytes.now in
    let z : drop l.i bytes ≡ [] = drop_of_length-le bytes {i = l.i} (omega arith) in
    write_done l.part bytes l.i (omega arith) (rw z at l.invariant.1)
