use mathlib.Core.Path.{sym, ◌∙◌}
use native.Mathlib.Omega.{arith}
use Rattle.columns.proofs.Words.{shl_one}
use Rattle.order.proofs.Walk.{walk_start, walk-taken, walk-left, walk-full, walk-done}
use Rattle.order.proofs.put_ones.Goals as goal
use Rattle.order.proofs.put_ones.Goals.{then-weight-c, else-weight-c}

pub loop-x-init : goal.loop-x-init
loop-x-init c = let a = c.args in walk_start a.places.now a.at a.r a.c c.requires.0

pub returns-then-i-places : goal.returns-then-i-places
returns-then-i-places c =
    let l = c.loop-x in
    let a = c.args in
    let e = walk-full a.places.now a.at a.r a.c l.places l.i l.x l.invariant c.if-i-places.true in
    record { value = e.next; places_after = e.put }

pub loop-x-preserved : goal.loop-x-preserved
loop-x-preserved c =
    let l = c.loop-x in
    let a = c.args in
    elim c.if-weight-c.branch [
      | then-weight-c w ↦
          rw (w.places-is, w.i-is)
          (walk-taken a.places.now a.at a.r a.c l.places l.i l.x l.invariant
          (omega (arith, c.loop-x-test.true, shl_one 32 a.r (omega arith))) c.if-i-places.false (sym c.weight.ensures ∙ w.if-weight-c.true))
      | else-weight-c w ↦
          rw (w.places-is, w.i-is)
          (walk-left a.places.now a.at a.r a.c l.places l.i l.x l.invariant
          (omega (arith, c.loop-x-test.true, shl_one 32 a.r (omega arith))) (λ same. w.if-weight-c.false (c.weight.ensures ∙ same)))
    ]

pub returns : goal.returns
returns c =
    let l = c.loop-x in
    let a = c.args in
    let e = walk-done a.places.now a.at a.r a.c l.places l.i l.x l.invariant (omega (arith, shl_one 32 a.r (omega arith))) in
    record { value = e.next; places_after = e.put }
