use native.Mathlib.Omega.{arith}
use Rattle.report.proofs.Filled.{hole-room, hole-filled, char_room, char_written, all_written}
use Rattle.report.proofs.put_filled.Goals as goal
use Rattle.report.proofs.put_filled.Goals.{then-c-eq-HOLE, else-c-eq-HOLE}

-- at a hole
pub bounds-numbers-k : goal.bounds-numbers-k
bounds-numbers-k c =
    let a = c.args in
    let m = c.loop-c in
    (hole-room a.text.now a.numbers.now a.out.now m.out a.at m.at m.k m.c-index
    c.requires.numbers_in_bounds m.invariant c.loop-c-test.true c.if-c-eq-HOLE.true).0

pub put_decimal-at-requires : goal.put_decimal-at-requires
put_decimal-at-requires c =
    let a = c.args in
    let m = c.loop-c in
    (hole-room a.text.now a.numbers.now a.out.now m.out a.at m.at m.k m.c-index
    c.requires.numbers_in_bounds m.invariant c.loop-c-test.true c.if-c-eq-HOLE.true).1

pub bounds-out-at : goal.bounds-out-at
bounds-out-at c =
    let a = c.args in
    let m = c.loop-c in
    char_room a.text.now a.numbers.now a.out.now m.out a.at m.at m.k m.c-index
    c.requires.numbers_in_bounds m.invariant c.loop-c-test.true c.if-c-eq-HOLE.false

pub loop-c-preserved : goal.loop-c-preserved
loop-c-preserved c =
    let a = c.args in
    let m = c.loop-c in
    elim c.if-c-eq-HOLE.branch [
      | then-c-eq-HOLE w ↦
          rw (w.out-is, w.at-is, w.k-is)
          (hole-filled a.text.now a.numbers.now a.out.now m.out w.put_decimal-at.new.out a.at m.at w.put_decimal-at.result m.k m.c-index
          c.requires.numbers_in_bounds m.invariant c.loop-c-test.true w.if-c-eq-HOLE.true (omega arith)
          (w.put_decimal-at.ensures.value, w.put_decimal-at.ensures.out_after))
      | else-c-eq-HOLE w ↦
          rw (w.out-is, w.at-is, w.k-is)
          (char_written a.text.now a.numbers.now a.out.now m.out a.at m.at m.k m.c-index
          c.requires.numbers_in_bounds m.invariant c.loop-c-test.true w.if-c-eq-HOLE.false)
    ]

pub returns : goal.returns
returns c =
    let a = c.args in
    let m = c.loop-c in
    let all = all_written a.text.now a.numbers.now a.out.now m.out a.at m.at m.k m.c-index m.invariant c.loop-c-test.false in
    record { value = all.0; out_after = all.1 }
