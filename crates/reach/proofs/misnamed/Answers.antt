-- `reach::misnamed` meets its contract: the loop takes one place at a time. Assumes nothing.
use mathlib.Core.Path.{sym, ◌∙◌}
use mathlib.Core.Bool.{true, false}
use Rattle.reach.proofs.Places.{misnamed_above, misnamed_below, misnamed_past}
use Rattle.reach.proofs.misnamed.Goals as goal
use Rattle.reach.proofs.misnamed.Goals.{then-p-n-via-then-p-n, then-p-n-via-else-p-n+then-contains}

pub returns-then-p-n : goal.returns-then-p-n
returns-then-p-n c =
    let a = c.args in
    let i = c.loop-i.i in
    elim c.then-p-n.branch [
      | then-p-n-via-then-p-n w ↦ sym (misnamed_above a.n i a.places.now c.loop-i-test.true w.if-p-n.true) ∙ c.loop-i.invariant
      | then-p-n-via-else-p-n+then-contains w ↦
          sym (misnamed_below a.n i a.places.now c.loop-i-test.true w.if-p-n.false true (sym w.if-contains.true ∙ w.contains.ensures.value))
          ∙ c.loop-i.invariant
    ]

pub loop-i-preserved : goal.loop-i-preserved
loop-i-preserved c =
    let a = c.args in
    sym (misnamed_below a.n c.loop-i.i a.places.now c.loop-i-test.true c.if-p-n.false false (sym c.if-contains.false ∙ c.contains.ensures.value))
    ∙ c.loop-i.invariant

pub returns : goal.returns
returns c = sym (misnamed_past c.args.n c.loop-i.i c.args.places.now c.loop-i-test.false) ∙ c.loop-i.invariant
