-- `entering::put_record` meets its contract: three spans, of which the second may begin within the first. Assumes nothing.
use Prim.Native.Nat.{◌-◌}
use native.Mathlib.Omega.{arith}
use Rattle.entering.proofs.Turned.{put_less}
use Rattle.entering.proofs.put_record.Goals as goal

pub put_span-requires-2-clause-put : goal.put_span-requires-2-clause-put
put_span-requires-2-clause-put c =
    let a = c.args in
    (omega arith, put_less (a.d - 8) 8 c.put_span.new.part a.rec.now (omega arith) (omega arith) c.put_span.ensures.1)
