use native.Mathlib.Omega.{arith}
use Rattle.columns.proofs.Places.{place_here, place_next, place_past}
use Rattle.columns.proofs.place_in.Goals as goal

pub returns-then-column-s : goal.returns-then-column-s
returns-then-column-s c = omega (arith, place_here c.args.columns.now c.args.s c.loop-i.i (omega arith) c.if-column-s.true)

pub loop-i-preserved : goal.loop-i-preserved
loop-i-preserved c = omega (arith, place_next c.args.columns.now c.args.s c.loop-i.i (omega arith) c.if-column-s.false)

pub returns : goal.returns
returns c = omega (arith, place_past c.args.columns.now c.args.s c.loop-i.i (omega arith))
