use Prim.Native.Nat.{◌+◌}
use native.Mathlib.Omega.{arith}
use Rattle.order.proofs.Walk.{count-start, count_next, count-full, count-done}
use Rattle.order.proofs.put_columns.Goals as goal

pub loop-c-init : goal.loop-c-init
loop-c-init c = count-start c.args.places.now c.args.r

pub returns-then-i-places : goal.returns-then-i-places
returns-then-i-places c =
    let l = c.loop-c in
    let a = c.args in
    count-full a.places.now a.r l.places l.i l.c l.invariant c.if-i-places.true

pub loop-c-preserved : goal.loop-c-preserved
loop-c-preserved c =
    let l = c.loop-c in
    let a = c.args in
    count_next a.places.now a.r l.places l.i l.c l.invariant (omega arith) c.put_ones-i.new.places c.put_ones-i.result
    (record { next = c.put_ones-i.ensures.value; put = c.put_ones-i.ensures.places_after })

pub returns : goal.returns
returns c =
    let l = c.loop-c in
    let a = c.args in
    count-done a.places.now a.r l.places l.i l.c l.invariant (omega arith)

-- the same where no count is left after this one
pub returns-else-i-places : goal.returns-else-i-places
returns-else-i-places c =
    let l = c.loop-c in
    let a = c.args in
    let next = count_next a.places.now a.r l.places l.i l.c l.invariant (omega arith) c.put_ones-i.new.places c.put_ones-i.result
    (record { next = c.put_ones-i.ensures.value; put = c.put_ones-i.ensures.places_after }) in
    count-done a.places.now a.r c.put_ones-i.new.places c.put_ones-i.result (l.c + 2) next (omega arith)
