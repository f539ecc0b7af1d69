-- `entering::put_span` meets its contract: the number says those bytes and no others. Assumes nothing.
use mathlib.Core.Path.{ap, ap₂, ◌∙◌}
use Prim.Native.Nat.{◌-◌}
use native.Mathlib.Omega.{arith}
use lib.ListN.{length, take, drop}
use Rattle.record.specs.Bytes.{bytes_of, AllBytes}
use Rattle.record.proofs.Bytes.{bytes_drop, bytes_number, write_part}
use Rattle.record.proofs.Over.{part_length}
use Rattle.runs.proofs.Numbers.{bytes_take}
use Rattle.entering.proofs.put_span.Goals as goal

pub returns : goal.returns
returns c =
    let a = c.args in
    let rec = a.rec.now in
    let m = a.to - a.from in
    let bytes : AllBytes rec = λ i. omega (arith, c.type_inv.rec i) in
    let span = bytes_take m (drop a.from rec) (bytes_drop a.from rec bytes) in
    let size = part_length a.from m rec (omega arith) in
    let said =
    c.put_number.ensures ∙ ap₂ bytes_of (part_length a.from m a.part.now (omega arith)) c.number.ensures
    ∙ bytes_number m (take m (drop a.from rec)) span size in (
      omega arith,
      write_part a.part.now _ rec _ a.from m a.to (omega arith) (omega arith) (ap length said ∙ size) said c.requires.put.1,
    )
