-- `byte_code::solution_in` meets its contract: a turn that finds one, one that goes on, and the end. Assumes nothing.
use Rattle.std.proofs.Common.{◌≡◌, sym, ◌∙◌, arith, false}
use Rattle.byte_code.specs.Reading.{solves}
use Rattle.byte_code.proofs.Steps.{solves_not, solution_here, solution_next, solution_past}
use Rattle.byte_code.proofs.solution_in.Goals as goal
use Rattle.byte_code.proofs.solution_in.Goals.{else-power_t-s-via-then-power_t-s+else-power_t-s-2, else-power_t-s-via-else-power_t-s}

pub returns-then-power_t-s-2 : goal.returns-then-power_t-s-2
returns-then-power_t-s-2 c =
    let l = c.loop-i in
    let one = sym c.power_t.ensures.value ∙ c.if-power_t-s.true in
    let two = sym c.power_t-then-power_t-s.ensures.value ∙ c.if-power_t-s-2.true in
    sym (solution_here c.args.s 7 l.i (omega arith) one two) ∙ l.invariant

pub loop-i-preserved : goal.loop-i-preserved
loop-i-preserved c =
    let l = c.loop-i in
    let missed : solves c.args.s l.i ≡ false =
    elim c.else-power_t-s.branch [
      | else-power_t-s-via-then-power_t-s+else-power_t-s-2 w ↦
          solves_not c.args.s l.i (λ a b. w.if-power_t-s-2.false (w.power_t-then-power_t-s.ensures.value ∙ b))
      | else-power_t-s-via-else-power_t-s w ↦ solves_not c.args.s l.i (λ a b. w.if-power_t-s.false (c.power_t.ensures.value ∙ a))
    ] in
    sym (solution_next c.args.s 7 l.i (omega arith) missed) ∙ l.invariant

pub returns : goal.returns
returns c = let l = c.loop-i in sym (solution_past c.args.s 7 l.i (omega arith)) ∙ l.invariant
