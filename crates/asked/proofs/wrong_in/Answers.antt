-- `asked::wrong_in` meets its contract: each test that fails gives its number. Assumes nothing.
use mathlib.Core.Path.{sym, ◌∙◌}
use native.Mathlib.Omega.{arith}
use Rattle.asked.specs.Pass.{state_of}
use Rattle.asked.proofs.Cases.{none_lent, turned_round, past, over-used, back, none-used, on}
use Rattle.asked.proofs.wrong_in.Goals as goal
use Rattle.asked.proofs.wrong_in.Goals.{then-over-via-then-over, then-over-via-else-over+then-over-image}
use Rattle.asked.proofs.wrong_in.Goals.{else-used-gt0-via-then-used-gt0+else-over-last_stamp, else-used-gt0-via-else-used-gt0}

pub returns-then-no_image : goal.returns-then-no_image
returns-then-no_image c =
    let a = c.args in
    sym (none_lent a.d a.over (state_of a.image.now a.journal.now a.used) (sym c.no_image.ensures ∙ c.if-no_image.true))

pub returns-then-over : goal.returns-then-over
returns-then-over c =
    let a = c.args in
    let s = state_of a.image.now a.journal.now a.used in
    let one = sym c.no_image.ensures ∙ c.if-no_image.false in
    elim c.then-over.branch [
      | then-over-via-then-over w ↦ sym (turned_round a.d a.over s one w.if-over.true)
      | then-over-via-else-over+then-over-image w ↦ sym (past a.d a.over s one w.if-over-image.true)
    ]

pub returns-then-used-room : goal.returns-then-used-room
returns-then-used-room c =
    let a = c.args in
    sym (over-used a.d a.over (state_of a.image.now a.journal.now a.used) (sym c.no_image.ensures ∙ c.if-no_image.false)
    c.if-over.false c.if-over-image.false (omega arith))

pub returns-then-over-last_stamp : goal.returns-then-over-last_stamp
returns-then-over-last_stamp c =
    let a = c.args in
    sym (back a.d a.over (state_of a.image.now a.journal.now a.used) (sym c.no_image.ensures ∙ c.if-no_image.false)
    c.if-over.false c.if-over-image.false (omega arith) c.if-used-gt0.true (omega arith))

pub returns : goal.returns
returns c =
    let a = c.args in
    let s = state_of a.image.now a.journal.now a.used in
    let one = sym c.no_image.ensures ∙ c.if-no_image.false in
    elim c.else-used-gt0.branch [
      | else-used-gt0-via-then-used-gt0+else-over-last_stamp w ↦
          sym (on a.d a.over s one c.if-over.false c.if-over-image.false (omega arith) (omega arith))
      | else-used-gt0-via-else-used-gt0 w ↦
          sym (none-used a.d a.over s one c.if-over.false c.if-over-image.false (omega arith) w.if-used-gt0.false)
    ]
